-- Whom a tick names, and what it takes. A reader of the contracts has to believe this file.
use Rattle.std.specs.Prelude.{ℕ, zero, suc, ◌-◌, Bool, true, false, cond, not, ◌&&◌, List, [], ◌∷◌, length, Some, None, Option, nat_lt}
use Rattle.packing.specs.Packing.{at_home}
use Rattle.choosing.specs.declared.share.Share.{Share}
use Rattle.choosing.specs.Balance.{spent}
use Rattle.choosing.specs.Choosing.{Rule, Lawful}
use Rattle.levels.specs.declared.item.Item.{Item}
use Rattle.levels.specs.declared.server.Server.{Server}
use Rattle.levels.specs.Items.{server_at, clients, duals}

-- ---- the choosing rules

-- The rule of each server, by level and place. It may differ from server to server and from tick to tick.
abbrev pub Rules : Type 0
Rules = ℕ → ℕ → Rule

-- All of them owe what a choosing rule owes.
abbrev pub AllLawful : Rules → Type 0
AllLawful rules = (k j : ℕ) → Lawful (rules k j)

-- One rule for all servers.
abbrev pub always : Rule → Rules
always rule = λ k j. rule

-- The rules from the next level up.
abbrev pub next_level : Rules → Rules
next_level rules = λ k. rules (suc k)

-- ---- who is named

-- Server j runs: it is one of the servers, and its dual is not named.
abbrev pub server_runs : List Server → (ℕ → Bool) → ℕ → Bool
server_runs ss dual_named j = nat_lt j (length ss) && not (dual_named j)

-- The client that server j names, by its place among the clients of j: the one that its rule names, if j runs.
abbrev pub picks : (ℕ → Rule) → List Item → List Server → (ℕ → Bool) → ℕ → Option ℕ
picks rule items ss dual_named j = cond (server_runs ss dual_named j) (rule j (server_at ss j).share (clients items j)) None

-- The item with home h is the client that its home names, where each server j names its client at place `pick j` and no
-- client of h came before.
abbrev pub is_first : Option ℕ → Bool
is_first None = false
is_first (Some zero) = true
is_first (Some (suc k)) = false

abbrev pub takes : (ℕ → Option ℕ) → Option ℕ → Bool
takes pick None = false
takes pick (Some h) = is_first (pick h)

-- Past an item, the client that its home names is one place nearer.
abbrev pub nearer : Option ℕ → Option ℕ
nearer None = None
nearer (Some zero) = None
nearer (Some (suc k)) = Some k

abbrev pub past : (ℕ → Option ℕ) → Option ℕ → ℕ → Option ℕ
past pick h j = cond (at_home h j) (nearer (pick j)) (pick j)

-- Item i is the client that its home names.
abbrev pub picked : (ℕ → Option ℕ) → List Item → ℕ → Bool
picked pick [] i = false
picked pick (x ∷ xs) zero = takes pick x.home
picked pick (x ∷ xs) (suc i) = picked (past pick x.home) xs i

-- Item i is named in this tick, where `levels` are the servers that the items are placed in and those of the levels above.
-- The servers whose dual is not named in the level above run, and each names one of its clients; above the top nothing is
-- named, so that all servers of the top run.
abbrev pub named : Rules → ℕ → List Item → List (List Server) → ℕ → Bool
named rules unit items [] i = false
named rules unit items (ss ∷ above) i = picked (picks (rules 0) items ss (named (next_level rules) unit (duals unit ss) above)) items i

-- The dual of server j is named in the level above.
abbrev pub duals_named : Rules → ℕ → List Server → List (List Server) → ℕ → Bool
duals_named rules unit ss above j = named (next_level rules) unit (duals unit ss) above j

-- ---- what the tick takes

-- One tick from a share that runs.
abbrev pub spend_if : Bool → Share → Share
spend_if true c = spent c
spend_if false c = c

-- One tick from each item that is named.
abbrev pub spend_item : Bool → Item → Item
spend_item b x = record { share = spend_if b x.share; home = x.home }

abbrev pub spend_items : (ℕ → Bool) → List Item → List Item
spend_items named [] = []
spend_items named (x ∷ xs) = spend_item (named 0) x ∷ spend_items (λ i. named (suc i)) xs

-- One tick from the dual of a server, if it is named, or else from the server.
abbrev pub spend_server : Bool → Server → Server
spend_server true s = record { share = s.share; dual = s.dual - 1; home = s.home }
spend_server false s = record { share = spent s.share; dual = s.dual; home = s.home }

abbrev pub spend_servers : (ℕ → Bool) → List Server → List Server
spend_servers dual_named [] = []
spend_servers dual_named (s ∷ ss) = spend_server (dual_named 0) s ∷ spend_servers (λ j. dual_named (suc j)) ss

-- So in every level.
abbrev pub spend_levels : Rules → ℕ → List (List Server) → List (List Server)
spend_levels rules unit [] = []
spend_levels rules unit (ss ∷ above) = spend_servers (duals_named rules unit ss above) ss ∷ spend_levels (next_level rules) unit above
