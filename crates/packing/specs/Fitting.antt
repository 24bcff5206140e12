-- What a fitting rule is, and what it owes. A reader of the contracts has to believe this file.
use Rattle.std.specs.Prelude.{ℕ, ◌+◌, ◌<◌, ◌≤◌, List, length, Some, None, Option, slice_index}

-- A fitting rule as a function: from the parts used by each open server, in order of opening, the unit, and the rate of
-- an item, to the server that the item goes to, or none.
abbrev pub Rule : Type 0
Rule = List ℕ → ℕ → ℕ → Option ℕ

-- Server j is open and has room for the item: what it has used and the item's rate are within the unit.
abbrev pub Room : List ℕ → ℕ → ℕ → ℕ → Type 0
Room used unit rate j = (j < length used) × (slice_index used j + rate ≤ unit)

-- The answer of a rule: none, and no open server has room; or a server that has room, and of which P holds.
abbrev pub Names : List ℕ → ℕ → ℕ → (ℕ → Type 0) → Option ℕ → Type 0
Names used unit rate P None = (j : ℕ) → Room used unit rate j → ⊥
Names used unit rate P (Some j) = Room used unit rate j × P j

-- What every fitting rule owes: it names a server with room, and none exactly if no open server has room.
abbrev pub Lawful : Rule → Type 0
Lawful rule = (used : List ℕ) (unit rate : ℕ) → Names used unit rate (λ _. Unit {0}) (rule used unit rate)
