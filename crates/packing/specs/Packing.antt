-- The items of one level packed into servers. A reader of the contracts has to believe this file.
use Rattle.std.specs.Prelude.{◌≡◌, ℕ, ◌+◌, ◌<◌, ◌≤◌, Bool, false, cond, ◌≢◌, List, [], ◌∷◌, ◌++◌, length, Some, None, sum, Option, ◌==◌, slice_index, slice_index_or, slice_set}
use Rattle.std.specs.List.{AllByRecursion}
use Rattle.packing.specs.Fitting.{Rule}

-- A packing of items: the server that each item was placed in, its home, and the rate of each server, in order of
-- opening. A rate of 0 stands for no item, and has no home.
pub record Packing : Type 0 where
  pub homes : List (Option ℕ)
  pub rates : List ℕ

-- ---- placing the items one by one

-- The parts used by each server after an item went to the server named, or, where none was named, opened a new one.
abbrev pub grown : Option ℕ → List ℕ → ℕ → List ℕ
grown (Some j) used rate = slice_set used j (slice_index used j + rate)
grown None used rate = used ++ rate ∷ []

-- The server that the item went to.
abbrev pub goes_to : Option ℕ → List ℕ → ℕ
goes_to (Some j) used = j
goes_to None used = length used

-- The parts used by each server after one item, and the home of that item.
abbrev pub used_after : Rule → ℕ → List ℕ → ℕ → List ℕ
used_after rule unit used rate = cond (rate == 0) used (grown (rule used unit rate) used rate)

abbrev pub home_after : Rule → ℕ → List ℕ → ℕ → Option ℕ
home_after rule unit used rate = cond (rate == 0) None (Some (goes_to (rule used unit rate) used))

-- The parts used by each server after all items of a list, and the home of each of them.
abbrev pub filled : Rule → ℕ → List ℕ → List ℕ → List ℕ
filled rule unit used [] = used
filled rule unit used (rate ∷ rest) = filled rule unit (used_after rule unit used rate) rest

abbrev pub settled : Rule → ℕ → List ℕ → List ℕ → List (Option ℕ)
settled rule unit used [] = []
settled rule unit used (rate ∷ rest) = home_after rule unit used rate ∷ settled rule unit (used_after rule unit used rate) rest

-- The packing of a list of items begins with no server: the rates of the servers, and the homes.
abbrev pub servers_of : Rule → ℕ → List ℕ → List ℕ
servers_of rule unit items = filled rule unit [] items

abbrev pub homes_of : Rule → ℕ → List ℕ → List (Option ℕ)
homes_of rule unit items = settled rule unit [] items

abbrev pub packing_of : Rule → ℕ → List ℕ → Packing
packing_of rule unit items = record { homes = homes_of rule unit items; rates = servers_of rule unit items }

-- ---- what a packing owes, whatever the rule

-- The test that a home is server j.
abbrev pub at_home : Option ℕ → ℕ → Bool
at_home None j = false
at_home (Some k) j = k == j

-- The rates of the clients of server j, which are the items whose home it is, in placing order.
abbrev pub clients : List (Option ℕ) → List ℕ → ℕ → List ℕ
clients [] items j = []
clients (h ∷ hs) [] j = []
clients (h ∷ hs) (rate ∷ items) j = cond (at_home h j) (rate ∷ clients hs items j) (clients hs items j)

-- From 1 to the unit.
abbrev pub Within : ℕ → ℕ → Type 0
Within unit rate = (1 ≤ rate) × (rate ≤ unit)

-- Any two servers together exceed the unit.
abbrev pub Crowded : ℕ → List ℕ → Type 0
Crowded unit rates = (i j : ℕ) → i < j → j < length rates → unit < slice_index rates i + slice_index rates j

pub record Sound (unit : ℕ) (items : List ℕ) (p : Packing) : Type 0 where
  pub homes_known : length p.homes ≡ length items
  -- an item has one of the servers as its home, and what is no item has none
  pub housed : (i : ℕ) → i < length items → slice_index items i ≢ 0 → (j : ℕ) × (slice_index_or p.homes i None ≡ Some j) × (j < length p.rates)
  pub unhoused : (i : ℕ) → i < length items → slice_index items i ≡ 0 → slice_index_or p.homes i None ≡ None
  -- the rate of a server is the sum of its clients' rates
  pub loads : (j : ℕ) → slice_index p.rates j ≡ sum (clients p.homes items j)
  pub sums : sum p.rates ≡ sum items
  pub within : AllByRecursion (Within unit) p.rates
  pub crowded : Crowded unit p.rates
