-- The worked example is a run, so that the theorems speak of something. Assumes nothing.
use Rattle.std.proofs.Common.{ℕ, zero, suc, ◌*◌, ◌<◌, refl, arith}
use Rattle.packing.specs.Rules.{first_fit}
use Rattle.packing.specs.Plan.{IsPlan, FullCores}
use Rattle.packing.specs.Preferred.{first_fit_lawful}
use Rattle.choosing.specs.Rules.{earliest_deadline}
use Rattle.choosing.specs.Lawfulness.{earliest_deadline_lawful}
use Rattle.levels.specs.Ticking.{Rules, always}
use Rattle.levels.specs.Running.{State, task}
use Rattle.levels.specs.Opening.{opening}
use Rattle.levels.specs.Reaching.{Goes, Reached, opens, announces, ticks}
use Rattle.levels.specs.Worked.{two_cores, three_rates, three_plan, three_announced, after_ticks, three_second}
use Rattle.levels.specs.Theorems.{RunsThereAre}
use Rattle.levels.proofs.Plans.{every_plan_opens}

-- First fit makes this plan.
is_plan : IsPlan first_fit 3 three_rates three_plan
is_plan = (refl, (λ roots. absurd (omega (arith, roots.0))), (refl, (refl, tt)))

fills_cores : FullCores 3 2 three_rates
fills_cores = record {
  a_unit = omega arith;
  a_core = omega arith;
  few_cores = omega arith;
  within = ((omega arith, omega arith), ((omega arith, omega arith), ((omega arith, omega arith), tt)));
  full = refl;
}

opened : Reached two_cores (opening three_rates three_plan)
opened = opens (every_plan_opens first_fit first_fit_lawful two_cores three_rates fills_cores (omega arith) three_plan is_plan)

three : (P : ℕ → Type 0) → P 0 → P 1 → P 2 → (i : ℕ) → i < 3 → P i
three P a b c zero l = a
three P a b c (suc zero) l = b
three P a b c (suc (suc zero)) l = c
three P a b c (suc (suc (suc i))) l = absurd (omega arith)

first_jobs : Reached two_cores three_announced
first_jobs =
    announces (announces (announces opened
    0 1 (record { one = omega arith; due = refl; later = omega arith; within = omega arith }))
    1 2 (record { one = omega arith; due = refl; later = omega arith; within = omega arith }))
    2 2 (record { one = omega arith; due = refl; later = omega arith; within = omega arith })

-- ---- the ticks

abbrev first : ℕ → State
first n = after_ticks earliest_deadline two_cores n three_announced

goes_first : Goes two_cores (first 0)
goes_first = record { lasts = omega arith; announced = three (λ i. 0 < 3 * (task (first 0) i).deadline) (omega arith) (omega arith) (omega arith) }

goes_1 : Goes two_cores (first 1)
goes_1 = record { lasts = omega arith; announced = three (λ i. 1 < 3 * (task (first 1) i).deadline) (omega arith) (omega arith) (omega arith) }

goes_2 : Goes two_cores (first 2)
goes_2 = record { lasts = omega arith; announced = three (λ i. 2 < 3 * (task (first 2) i).deadline) (omega arith) (omega arith) (omega arith) }

goes_second : Goes two_cores three_second
goes_second = record { lasts = omega arith; announced = three (λ i. 3 < 3 * (task three_second i).deadline) (omega arith) (omega arith) (omega arith) }

abbrev earliest : Rules
earliest = always earliest_deadline

second_job : Reached two_cores three_second
second_job =
    announces (ticks (ticks (ticks first_jobs
    goes_first earliest (λ k j. earliest_deadline_lawful))
    goes_1 earliest (λ k j. earliest_deadline_lawful))
    goes_2 earliest (λ k j. earliest_deadline_lawful))
    0 2 (record { one = omega arith; due = refl; later = omega arith; within = omega arith })

pub runs_there_are : RunsThereAre
runs_there_are = ((first_jobs, goes_first), refl, (second_job, goes_second), refl, refl)
