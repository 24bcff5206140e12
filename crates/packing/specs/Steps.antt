-- What the inner steps of packing leave; only contracts of private functions cite this.
use Rattle.std.specs.Prelude.{◌≡◌, ℕ, ◌*◌, ◌<◌, ◌≤◌, List, length, take, Some, None, sum, Option, slice_index}
use Rattle.std.specs.List.{AllByRecursion}
use Rattle.packing.specs.Packing.{Within, grown, goes_to}
use Rattle.packing.specs.Fitting.{Rule}
use Rattle.packing.specs.Plan.{FullCores, IsPlan}
use Rattle.packing.specs.Tables.{plan_table, levels_in}
use Rattle.packing.specs.declared.plan.Plan.{Plan}

-- One item was placed: its home j, and the parts used by each server before and after.
pub record Placed (named : Option ℕ) (old : List ℕ) (rate j : ℕ) (new : List ℕ) : Type 0 where
  pub home : j ≡ goes_to named old
  pub few : length new ≤ 31
  pub used : new ≡ grown named old rate

-- Cores and unit that the table allows.
pub record Bounded (cores unit : ℕ) : Type 0 where
  pub a_core : 1 ≤ cores
  pub few_cores : cores ≤ 16
  pub a_unit : 1 ≤ unit
  pub small_unit : unit ≤ 1000

-- The first task whose rate is not within the unit, or none.
abbrev pub FirstOutside : ℕ → List ℕ → Option ℕ → Type 0
FirstOutside unit sheet None = AllByRecursion (Within unit) sheet
FirstOutside unit sheet (Some i) = (i < length sheet) × (Within unit (slice_index sheet i) → ⊥) × AllByRecursion (Within unit) (take i sheet)

-- The items fill some number of cores.
abbrev pub FillsCores : ℕ → List ℕ → Type 0
FillsCores unit items = (cores : ℕ) × FullCores unit cores items

-- A plan of these tasks, in its tables.
pub record Built (rule : Rule) (unit : ℕ) (tasks : List ℕ) (plan : Plan) : Type 0 where
  pub is_plan : IsPlan rule unit tasks (levels_in plan)
  pub tables : plan ≡ plan_table unit tasks (levels_in plan)

-- A load that no row of the table refuses.
pub record Limits (cores unit : ℕ) (sheet : List ℕ) : Type 0 where
  pub a_core : 1 ≤ cores
  pub few_cores : cores ≤ 16
  pub a_unit : 1 ≤ unit
  pub small_unit : unit ≤ 1000
  pub few_tasks : length sheet ≤ 64
  pub within : AllByRecursion (Within unit) sheet
  pub fits : sum sheet ≤ cores * unit
