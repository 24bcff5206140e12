-- What was built of the tasks of an allowed load is its plan. Assumes nothing.
use Rattle.std.proofs.Common.{◌≡◌, ℕ, List, ap, ◌∙◌, subst}
use Rattle.packing.specs.declared.plan.Plan.{Plan}
use Rattle.packing.specs.Fitting.{Rule, Lawful}
use Rattle.packing.specs.Made.{Planned}
use Rattle.packing.specs.Plan.{all_tasks, IsPlan}
use Rattle.packing.specs.Refusals.{Allowed}
use Rattle.packing.specs.Steps.{Built}
use Rattle.packing.specs.Tables.{plan_table, levels_in}
use Rattle.packing.proofs.Idle.{limits, full_tasks, few_tasks}
use Rattle.packing.proofs.Plans.{one_small_plan}

pub planned : (rule : Rule) → Lawful rule → (cores unit : ℕ) (sheet : List ℕ) → Allowed cores unit sheet → (tasks : List ℕ) (new : Plan)
    → tasks ≡ all_tasks cores unit sheet → Built rule unit tasks new → Planned rule cores unit sheet new
planned rule lawful cores unit sheet allowed tasks new all built =
    let load = limits cores unit sheet allowed in
    let one = one_small_plan rule lawful unit cores (all_tasks cores unit sheet) (full_tasks cores unit sheet load) in
    let levels : levels_in new ≡ one.levels = one.only (levels_in new) (subst (λ xs. IsPlan rule unit xs (levels_in new)) all built.is_plan) in
    record {
      allowed = allowed;
      plan = one;
      few_tasks = few_tasks cores unit sheet load;
      tables =
          built.tables
          ∙ ap (λ xs. plan_table unit xs (levels_in new)) all
          ∙ ap (plan_table unit (all_tasks cores unit sheet)) levels;
      levels = levels;
    }
