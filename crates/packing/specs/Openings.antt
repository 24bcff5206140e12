-- The openings of a run that are refused: those whose load is, and those whose frames are. A reader of the contracts has to believe this file.
use Rattle.std.specs.Prelude.{◌≡◌, ℕ, ◌<◌, ◌⊎◌, List, None, Ok, Err, Result}
use Rattle.packing.specs.declared.opening.OpeningRefusal.{OpeningRefusal}
use Rattle.packing.specs.declared.opening.OpeningRefusal.TheVariants.{Load, BadFrames}
use Rattle.packing.specs.declared.plan.Plan.{Plan}
use Rattle.packing.specs.Fitting.{Rule}
use Rattle.packing.specs.Made.{Planned}
use Rattle.packing.specs.Refusals.{Row, row, Applies, Before}

-- What a refusal says: its number, and the task that it names.
abbrev pub opening_row : OpeningRefusal → Row
opening_row (Load r) = row r
opening_row BadFrames = record { number = 3; task = None }

-- When the row of a refusal holds of an opening.
abbrev pub AppliesToOpening : ℕ → ℕ → ℕ → List ℕ → OpeningRefusal → Type 0
AppliesToOpening cores unit frames sheet (Load r) = Applies cores unit sheet r
AppliesToOpening cores unit frames sheet BadFrames = (frames < 1) ⊎ (65535 < frames)

-- The refusal that counts: its row holds, and none before it does.
abbrev pub FirstOfOpening : ℕ → ℕ → ℕ → List ℕ → OpeningRefusal → Type 0
FirstOfOpening cores unit frames sheet e =
    AppliesToOpening cores unit frames sheet e
    × ((f : OpeningRefusal) → AppliesToOpening cores unit frames sheet f → Before (opening_row f) (opening_row e) → ⊥)

-- The opening is allowed: no row holds.
abbrev pub OpeningAllowed : ℕ → ℕ → ℕ → List ℕ → Type 0
OpeningAllowed cores unit frames sheet = (f : OpeningRefusal) → AppliesToOpening cores unit frames sheet f → ⊥

-- A plan is made for a run: refused by the row that counts, and the plan is as found; or the opening is allowed, and its plan
-- is made.
abbrev pub MadeForRun : {Done : Type 0} → Rule → ℕ → ℕ → ℕ → List ℕ → Plan → Plan → Result Done OpeningRefusal → Type 0
MadeForRun rule cores unit frames sheet old new (Err e) = FirstOfOpening cores unit frames sheet e × (new ≡ old)
MadeForRun rule cores unit frames sheet old new (Ok _) = OpeningAllowed cores unit frames sheet × Planned rule cores unit sheet new
