-- The loads that are refused: the table, and which of its rows counts. A reader of the contracts has to believe this file.
use Rattle.std.specs.Prelude.{◌≡◌, ℕ, ◌*◌, ◌<◌, ◌⊎◌, List, length, Some, None, sum, Option, slice_index}
use Rattle.packing.specs.declared.refusal.Refusal.{Refusal}
use Rattle.packing.specs.declared.refusal.Refusal.TheVariants.{BadCores, BadUnit, BadTaskCount, BadRate, Overload}
use Rattle.packing.specs.Packing.{Within}

-- What a refusal says: its number, and the task that it names.
pub record Row : Type 0 where
  pub number : ℕ
  pub task : Option ℕ

abbrev pub row : Refusal → Row
row BadCores = record { number = 1; task = None }
row BadUnit = record { number = 2; task = None }
row BadTaskCount = record { number = 4; task = None }
row (BadRate i) = record { number = 5; task = Some i }
row Overload = record { number = 6; task = None }

-- When the row of a refusal holds of a load.
abbrev pub Applies : ℕ → ℕ → List ℕ → Refusal → Type 0
Applies cores unit sheet BadCores = (cores < 1) ⊎ (16 < cores)
Applies cores unit sheet BadUnit = (unit < 1) ⊎ (1000 < unit)
Applies cores unit sheet BadTaskCount = (length sheet < 1) ⊎ (64 < length sheet)
Applies cores unit sheet (BadRate i) = (i < length sheet) × (Within unit (slice_index sheet i) → ⊥)
Applies cores unit sheet Overload = cores * unit < sum sheet

-- The smaller number counts; of two tasks the lower.
abbrev pub Lower : Option ℕ → Option ℕ → Type 0
Lower None j = ⊥
Lower (Some i) None = ⊥
Lower (Some i) (Some j) = i < j

abbrev pub Before : Row → Row → Type 0
Before a b = (a.number < b.number) ⊎ ((a.number ≡ b.number) × Lower a.task b.task)

-- The refusal that counts: its row holds, and none before it does.
abbrev pub First : ℕ → ℕ → List ℕ → Refusal → Type 0
First cores unit sheet e = Applies cores unit sheet e × ((f : Refusal) → Applies cores unit sheet f → Before (row f) (row e) → ⊥)

-- The load is allowed: no row holds.
abbrev pub Allowed : ℕ → ℕ → List ℕ → Type 0
Allowed cores unit sheet = (f : Refusal) → Applies cores unit sheet f → ⊥
