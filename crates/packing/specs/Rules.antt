-- The three fitting rules: what each names, and as functions. A reader of the contracts has to believe this file.
use Rattle.std.specs.Prelude.{◌≡◌, ℕ, ◌+◌, ◌-◌, ◌<◌, ◌≤◌, cond, ◌⊎◌, List, Option, filter, nat_le, nat_lt, position, slice_index}
use Rattle.std.specs.List.{enumerate_from, reduce}
use Rattle.std.specs.Option.{option_map}
use Rattle.packing.specs.Fitting.{Rule, Room, Names}

-- The parts of server j that are free.
abbrev pub free : List ℕ → ℕ → ℕ → ℕ
free used unit j = unit - slice_index used j

-- First fit names the first server with room.
abbrev pub IsFirstFit : List ℕ → ℕ → ℕ → Option ℕ → Type 0
IsFirstFit used unit rate = Names used unit rate (λ j. (k : ℕ) → Room used unit rate k → j ≤ k)

-- Best fit names the server with room that has the fewest parts free, the first of equals.
abbrev pub IsBestFit : List ℕ → ℕ → ℕ → Option ℕ → Type 0
IsBestFit used unit rate =
    Names used unit rate (λ j. (k : ℕ) → Room used unit rate k → (free used unit j < free used unit k) ⊎ ((free used unit j ≡ free used unit k) × (j ≤ k)))

-- Worst fit names the server with room that has the most parts free, the first of equals.
abbrev pub IsWorstFit : List ℕ → ℕ → ℕ → Option ℕ → Type 0
IsWorstFit used unit rate =
    Names used unit rate (λ j. (k : ℕ) → Room used unit rate k → (free used unit k < free used unit j) ⊎ ((free used unit j ≡ free used unit k) × (j ≤ k)))

-- ---- the rules as functions

-- The first server with room.
abbrev pub first_fit : Rule
first_fit used unit rate = position (λ x. nat_le (x + rate) unit) used

-- The servers with room, each by its number and the parts that it has used.
abbrev pub with_room : List ℕ → ℕ → ℕ → List (ℕ × ℕ)
with_room used unit rate = filter (λ s. nat_le (s.1 + rate) unit) (enumerate_from 0 used)

-- Of two servers the one whose parts used have the lesser key; of equals the first.
abbrev pub lesser : (ℕ → ℕ) → ℕ × ℕ → ℕ × ℕ → ℕ × ℕ
lesser key a b = cond (nat_lt (key b.1) (key a.1)) b a

-- The server with room of the least key, the first of equals.
abbrev pub least : (ℕ → ℕ) → Rule
least key used unit rate = option_map (λ s. s.0) (reduce (lesser key) (with_room used unit rate))

-- By the parts free, and by the parts used.
abbrev pub best_fit : Rule
best_fit used unit rate = least (λ x. unit - x) used unit rate

abbrev pub worst_fit : Rule
worst_fit = least (λ x. x)
