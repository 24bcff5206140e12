-- What a run is opened with, and the tasks and the plan that follow from it. A reader of the contracts has to believe this file.
use Rattle.std.specs.Prelude.{ℕ, ◌-◌, List, length, slice_index}
use Rattle.packing.specs.Fitting.{Rule as Fitting, Lawful as LawfulFitting}
use Rattle.packing.specs.Packing.{Packing}
use Rattle.packing.specs.Plan.{spare, idle, all_tasks, IsPlan}
use Rattle.packing.specs.Openings.{OpeningAllowed}
use Rattle.choosing.specs.Choosing.{Rule as Choosing, Lawful as LawfulChoosing}

-- The arguments of an opening, its two rules as functions, and the plan.
pub record Opening : Type 0 where
  pub cores : ℕ
  -- the parts of a core, which are also the ticks of a frame
  pub unit : ℕ
  -- how many frames the run lasts
  pub frames : ℕ
  -- the rates of the sheet's tasks: parts of a core, which are also ticks for each frame
  pub sheet : List ℕ
  pub fit : Fitting
  pub choose : Choosing
  -- the packing of each level, the lowest first
  pub plan : List Packing

-- The opening with these arguments, over this plan.
abbrev pub opening_of : ℕ → ℕ → ℕ → List ℕ → Fitting → Choosing → List Packing → Opening
opening_of cores unit frames sheet fit choose plan =
    record { cores = cores; unit = unit; frames = frames; sheet = sheet; fit = fit; choose = choose; plan = plan }

-- The rates of the idle tasks, which take what the sheet leaves of the cores.
abbrev pub idle_rates : Opening → List ℕ
idle_rates o = idle o.unit (spare o.cores o.unit o.sheet)

-- The rates of all tasks, by number: the sheet's, then the idle ones.
abbrev pub rates : Opening → List ℕ
rates o = all_tasks o.cores o.unit o.sheet

-- The rate of task i.
abbrev pub rate : Opening → ℕ → ℕ
rate o i = slice_index (rates o) i

-- The reductions of the plan are its levels less one.
abbrev pub reductions : Opening → ℕ
reductions o = length o.plan - 1

-- An opening is granted: no row of the table refuses it, both rules keep what they owe, and the plan is the plan of
-- all its tasks.
pub record Granted (o : Opening) : Type 0 where
  pub allowed : OpeningAllowed o.cores o.unit o.frames o.sheet
  pub fits : LawfulFitting o.fit
  pub chooses : LawfulChoosing o.choose
  pub planned : IsPlan o.fit o.unit (rates o) o.plan
