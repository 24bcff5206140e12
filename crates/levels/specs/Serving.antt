-- Runs with what each task has been given of its present job. A reader of the contracts has to believe this file.
use Rattle.std.specs.Prelude.{ℕ, ◌+◌, cond, ◌==◌}
use Rattle.levels.specs.Sums.{bit}
use Rattle.levels.specs.Ticking.{Rules, AllLawful}
use Rattle.levels.specs.Running.{Machine, State, task, announce, runs, step}
use Rattle.levels.specs.Opening.{IsOpening}
use Rattle.levels.specs.Reaching.{Announces, Goes}

-- The function g, but v at i.
abbrev pub put : ℕ → ℕ → (ℕ → ℕ) → ℕ → ℕ
put i v g k = cond (k == i) v (g k)

-- A run with the frame at whose start each task's present job began, and the number of ticks that the task has run since.
pub data Served (m : Machine) : State → (ℕ → ℕ) → (ℕ → ℕ) → Type 0 where
  opens : {st : State} → IsOpening m st → Served m st (λ i. 0) (λ i. 0)
  announces : {st : State} {begun held : ℕ → ℕ} → Served m st begun held
      → (i d : ℕ) → Announces m st i d → Served m (announce i d st) (put i (task st i).deadline begun) (put i 0 held)
  ticks : {st : State} {begun held : ℕ → ℕ} → Served m st begun held → Goes m st → (rules : Rules) → AllLawful rules
      → Served m (step rules m st) begun (λ i. held i + bit (runs rules m st i))
