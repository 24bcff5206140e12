-- What a choosing rule is, and what it owes. A reader of the contracts has to believe this file.
use Rattle.std.specs.Prelude.{◌≡◌, ℕ, ◌<◌, ◌≤◌, ◌⊎◌, List, length, Some, None, Option}
use Rattle.choosing.specs.declared.share.Share.{Share}
use Rattle.choosing.specs.Balance.{at, Balanced, spent, spent_at}

-- A choosing rule as a function: from a server and its clients in placing order to the place of one client, or none.
abbrev pub Rule : Type 0
Rule = Share → List Share → Option ℕ

-- The client at place k has left.
abbrev pub HasLeft : List Share → ℕ → Type 0
HasLeft cs k = (k < length cs) × (1 ≤ (at cs k).left)

-- The answer of a rule: none, and no client has left or there are more than 80; or one of at most 80 clients that has left,
-- and of which P holds.
abbrev pub Names : List Share → (ℕ → Type 0) → Option ℕ → Type 0
Names cs P None = ((k : ℕ) → HasLeft cs k → ⊥) ⊎ (80 < length cs)
Names cs P (Some k) = (length cs ≤ 80) × HasLeft cs k × P k

-- One tick taken from a balanced server that has left, and from the client at place k, leaves it balanced.
abbrev pub KeepsBalance : Share → List Share → ℕ → Type 0
KeepsBalance s cs k = Balanced s cs → 1 ≤ s.left → Balanced (spent s) (spent_at cs k)

-- What every choosing rule owes.
abbrev pub Lawful : Rule → Type 0
Lawful rule = (s : Share) (cs : List Share) → Names cs (KeepsBalance s cs) (rule s cs)

-- A rule that goes on with the client that it named: after the tick that this client got, it is named again, if it still has
-- left and no client was renewed.
abbrev pub GoesOn : Rule → Type 0
GoesOn rule =
    (s : Share) (cs : List Share) (k : ℕ) → rule s cs ≡ Some k → 1 ≤ (at (spent_at cs k) k).left → rule (spent s) (spent_at cs k) ≡ Some k
