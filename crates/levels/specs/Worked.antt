-- Three tasks of 2 ticks in frames of 3 on two cores, worked out. A reader of the contracts has to believe this file.
use Rattle.std.specs.Prelude.{ℕ, zero, suc, List, [], ◌∷◌, map, length, Some}
use Rattle.packing.specs.Packing.{Packing}
use Rattle.choosing.specs.Choosing.{Rule}
use Rattle.choosing.specs.Rules.{earliest_deadline}
use Rattle.levels.specs.Sums.{passing}
use Rattle.levels.specs.Ticking.{always}
use Rattle.levels.specs.Running.{Machine, State, announce, runs, step}
use Rattle.levels.specs.Opening.{opening}

abbrev pub two_cores : Machine
two_cores = record { unit = 3; frames = 2; cores = 2 }

abbrev pub three_rates : List ℕ
three_rates = 2 ∷ 2 ∷ 2 ∷ []

-- No two fit into one server, and the three duals fill a root.
abbrev pub three_plan : List Packing
three_plan =
    record { homes = Some 0 ∷ Some 1 ∷ Some 2 ∷ []; rates = 2 ∷ 2 ∷ 2 ∷ [] }
    ∷ record { homes = Some 0 ∷ Some 0 ∷ Some 0 ∷ []; rates = 3 ∷ [] }
    ∷ []

-- The first jobs: of task 0 up to frame 1, and of tasks 1 and 2 up to frame 2.
abbrev pub three_announced : State
three_announced = announce 2 2 (announce 1 2 (announce 0 1 (opening three_rates three_plan)))

-- The tasks that run in each of the next n ticks, by one rule.
abbrev pub tasks_run : Rule → Machine → ℕ → State → List (List ℕ)
tasks_run rule m zero st = []
tasks_run rule m (suc n) st = passing 0 (length st.tasks) (runs (always rule) m st) ∷ tasks_run rule m n (step (always rule) m st)

-- The state after n ticks by one rule.
abbrev pub after_ticks : Rule → Machine → ℕ → State → State
after_ticks rule m zero st = st
after_ticks rule m (suc n) st = after_ticks rule m n (step (always rule) m st)

-- The second frame under earliest deadline: task 0 has its second job, up to frame 2.
abbrev pub three_second : State
three_second = announce 0 2 (after_ticks earliest_deadline two_cores 3 three_announced)

-- What each task has left.
abbrev pub lefts : State → List ℕ
lefts st = map (λ x. x.share.left) st.tasks
