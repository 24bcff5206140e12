-- What one tick given to a server leaves. A reader of the contracts has to believe this file.
use Rattle.std.specs.Prelude.{◌≡◌, ℕ, ◌≤◌, true, List, length, is_some, Some, None, Option}
use Rattle.choosing.specs.declared.share.Share.{Share}
use Rattle.choosing.specs.Balance.{Balanced, spent, spent_at}

-- The server, and the clients, after a tick for the client named; as they were where none is named.
abbrev pub server_after : Option ℕ → Share → Share
server_after None s = s
server_after (Some k) s = spent s

abbrev pub clients_after : Option ℕ → List Share → List Share
clients_after None cs = cs
clients_after (Some k) cs = spent_at cs k

-- A balanced server that has left and at most 80 clients gets its tick, and is balanced after it.
abbrev pub StaysBalanced : Option ℕ → Share → List Share → Share → List Share → Type 0
StaysBalanced named s cs s' cs' = Balanced s cs → 1 ≤ s.left → length cs ≤ 80 → (is_some named ≡ true) × Balanced s' cs'
