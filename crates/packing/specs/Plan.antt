-- The plan of a load: its tasks, packed level by level until only roots are left. A reader of the contracts has to believe this file.
use Rattle.std.specs.Prelude.{◌≡◌, ℕ, ◌-◌, ◌*◌, ◌/◌, ◌%◌, ◌<◌, ◌≤◌, cond, List, [], ◌∷◌, ◌++◌, map, length, replicate, Some, None, sum, Option, ◌==◌, slice_index, slice_index_or}
use Rattle.std.specs.List.{AllByRecursion}
use Rattle.packing.specs.Fitting.{Rule}
use Rattle.packing.specs.Packing.{Packing, packing_of, Sound, Within}

-- ---- the tasks

-- The parts of the cores that the sheet's tasks leave.
abbrev pub spare : ℕ → ℕ → List ℕ → ℕ
spare cores unit sheet = cores * unit - sum sheet

-- One task of this rate, or no task where the rate is 0.
abbrev pub unless_zero : ℕ → List ℕ
unless_zero rate = cond (rate == 0) [] (rate ∷ [])

-- The idle tasks take what is spare: as many of a whole unit as go, then one with the rest if there is a rest.
abbrev pub idle : ℕ → ℕ → List ℕ
idle unit parts = replicate (parts / unit) unit ++ unless_zero (parts % unit)

-- The rates of all tasks, by number: those of the sheet, then the idle ones.
abbrev pub all_tasks : ℕ → ℕ → List ℕ → List ℕ
all_tasks cores unit sheet = sheet ++ idle unit (spare cores unit sheet)

-- ---- the levels

-- A root is a server that has the whole unit.
abbrev pub OnlyRoots : ℕ → List ℕ → Type 0
OnlyRoots unit rates = AllByRecursion (λ rate. rate ≡ unit) rates

-- The dual of a server has the rest of the unit as its rate, and its number. A root has none: what is left is 0, no item.
abbrev pub duals : ℕ → List ℕ → List ℕ
duals unit rates = map (λ rate. unit - rate) rates

-- The levels over these items: each is the packing of its items, the items of the next are the duals of its servers, and
-- the first level that has only roots is the last.
abbrev pub IsPlan : Rule → ℕ → List ℕ → List Packing → Type 0
IsPlan rule unit items [] = ⊥
IsPlan rule unit items (l ∷ []) = (l ≡ packing_of rule unit items) × OnlyRoots unit l.rates
IsPlan rule unit items (l ∷ next ∷ above) =
    (l ≡ packing_of rule unit items) × (OnlyRoots unit l.rates → ⊥) × IsPlan rule unit (duals unit l.rates) (next ∷ above)

-- ---- the way of one item

-- The home j of an item, and what follows for the dual of server j; nothing where there is no home.
abbrev pub onward : Option ℕ → (ℕ → List ℕ) → List ℕ
onward None rest = []
onward (Some j) rest = j ∷ rest j

-- The servers above item i, level by level: its home, the home of that server's dual, and so on to a root.
abbrev pub climb : List Packing → ℕ → List ℕ
climb [] i = []
climb (l ∷ above) i = onward (slice_index_or l.homes i None) (climb above)

-- The last server of such a way is a root.
abbrev pub EndsInRoot : ℕ → List Packing → List ℕ → Type 0
EndsInRoot unit levels [] = ⊥
EndsInRoot unit [] (j ∷ way) = ⊥
EndsInRoot unit (l ∷ above) (j ∷ []) = slice_index l.rates j ≡ unit
EndsInRoot unit (l ∷ above) (j ∷ k ∷ way) = EndsInRoot unit above (k ∷ way)

-- ---- what a plan owes, whatever the rule

-- Each level is a sound packing of its items.
abbrev pub SoundLevels : ℕ → List ℕ → List Packing → Type 0
SoundLevels unit items [] = Unit {0}
SoundLevels unit items (l ∷ above) = Sound unit items l × SoundLevels unit (duals unit l.rates) above

-- Level by level at most so many servers, and no more levels than bounds.
abbrev pub Sized : List ℕ → List Packing → Type 0
Sized bounds [] = Unit {0}
Sized [] (l ∷ above) = ⊥
Sized (most ∷ bounds) (l ∷ above) = (length l.rates ≤ most) × Sized bounds above

-- The rates of a level fill a number of cores. Of n servers over m cores n - m are left to the level above, and the last
-- level has as many servers as cores.
abbrev pub Cored : ℕ → ℕ → List Packing → Type 0
Cored unit cores [] = Unit {0}
Cored unit cores (l ∷ []) = (sum l.rates ≡ cores * unit) × (length l.rates ≡ cores)
Cored unit cores (l ∷ next ∷ above) =
    (sum l.rates ≡ cores * unit) × (cores ≤ length l.rates) × Cored unit (length l.rates - cores) (next ∷ above)

-- Items that fill one to sixteen cores.
pub record FullCores (unit cores : ℕ) (items : List ℕ) : Type 0 where
  pub a_unit : 1 ≤ unit
  pub a_core : 1 ≤ cores
  pub few_cores : cores ≤ 16
  pub within : AllByRecursion (Within unit) items
  pub full : sum items ≡ cores * unit

-- There is exactly one plan. It has at most four reductions; its levels have at most 31, 16, 8, 4 and 2 servers, and each
-- is a sound packing; and from every item the way up ends in a root.
pub record OneSmallPlan (rule : Rule) (unit cores : ℕ) (items : List ℕ) : Type 0 where
  pub levels : List Packing
  pub is_plan : IsPlan rule unit items levels
  pub only : (other : List Packing) → IsPlan rule unit items other → other ≡ levels
  pub few_reductions : length levels - 1 ≤ 4
  pub sized : Sized (31 ∷ 16 ∷ 8 ∷ 4 ∷ 2 ∷ []) levels
  pub sound : SoundLevels unit items levels
  pub cored : Cored unit cores levels
  pub climbs : (i : ℕ) → i < length items → EndsInRoot unit levels (climb levels i)
