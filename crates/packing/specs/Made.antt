-- What the public calls leave and answer. A reader of the contracts has to believe this file.
use Rattle.std.specs.Prelude.{◌≡◌, ℕ, ◌<◌, ◌≤◌, ◌⊎◌, List, length, Some, None, Ok, Err, Option, Result}
use Rattle.packing.specs.declared.level.Level.{Level}
use Rattle.packing.specs.declared.plan.Plan.{Plan}
use Rattle.packing.specs.declared.refusal.Refusal.{Refusal}
use Rattle.packing.specs.Fitting.{Rule}
use Rattle.packing.specs.Packing.{servers_of, packing_of}
use Rattle.packing.specs.Plan.{all_tasks, OneSmallPlan}
use Rattle.packing.specs.Refusals.{First, Allowed}
use Rattle.packing.specs.Tables.{level_table, plan_table, levels_in}

-- One level is packed: none, and the items or their servers are too many for the tables; or the table of their packing.
abbrev pub PackedLevel : Rule → ℕ → List ℕ → Option Level → Type 0
PackedLevel rule unit items None = (80 < length items) ⊎ (31 < length (servers_of rule unit items))
PackedLevel rule unit items (Some l) = (length items ≤ 80) × (length (servers_of rule unit items) ≤ 31) × (l ≡ level_table (packing_of rule unit items))

-- A plan is made: refused by the row that counts, and the plan is as found; or the load is allowed, there is exactly one
-- plan of its tasks, and that is in the tables.
pub record Planned (rule : Rule) (cores unit : ℕ) (sheet : List ℕ) (new : Plan) : Type 0 where
  pub allowed : Allowed cores unit sheet
  pub plan : OneSmallPlan rule unit cores (all_tasks cores unit sheet)
  pub few_tasks : length (all_tasks cores unit sheet) ≤ 80
  pub tables : new ≡ plan_table unit (all_tasks cores unit sheet) plan.levels
  -- these tables stand for just that plan
  pub levels : levels_in new ≡ plan.levels

abbrev pub Made : {Done : Type 0} → Rule → ℕ → ℕ → List ℕ → Plan → Plan → Result Done Refusal → Type 0
Made rule cores unit sheet old new (Err e) = First cores unit sheet e × (new ≡ old)
Made rule cores unit sheet old new (Ok _) = Planned rule cores unit sheet new
