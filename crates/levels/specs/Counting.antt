-- Runs of one rule with the number of their jobs and of their preemptions. A reader of the contracts has to believe this file.
use Rattle.std.specs.Prelude.{ℕ, suc, ◌+◌, Bool, false, not, ◌&&◌, length, nat_lt}
use Rattle.choosing.specs.Choosing.{Rule}
use Rattle.levels.specs.Sums.{count}
use Rattle.levels.specs.Ticking.{always}
use Rattle.levels.specs.Running.{Machine, State, task, announce, runs, step}
use Rattle.levels.specs.Opening.{IsOpening}
use Rattle.levels.specs.Reaching.{Announces, Goes}

-- Task i runs in this tick, and has left after it.
abbrev pub unfinished : Rule → Machine → State → ℕ → Bool
unfinished rule m st i = runs (always rule) m st i && nat_lt 0 (task (step (always rule) m st) i).left

-- Task i is preempted by this tick: the last tick left it unfinished, and it does not run now.
abbrev pub preempted : Rule → Machine → State → (ℕ → Bool) → ℕ → Bool
preempted rule m st before i = before i && not (runs (always rule) m st i)

-- A run with the tasks that its last tick left unfinished, the jobs announced, and the preemptions.
pub data Counted (rule : Rule) (m : Machine) : State → (ℕ → Bool) → ℕ → ℕ → Type 0 where
  opens : {st : State} → IsOpening m st → Counted rule m st (λ i. false) 0 0
  announces : {st : State} {before : ℕ → Bool} {jobs preemptions : ℕ} → Counted rule m st before jobs preemptions
      → (i d : ℕ) → Announces m st i d → Counted rule m (announce i d st) before (suc jobs) preemptions
  ticks : {st : State} {before : ℕ → Bool} {jobs preemptions : ℕ} → Counted rule m st before jobs preemptions → Goes m st
      → Counted rule m (step (always rule) m st) (unfinished rule m st) jobs
      (preemptions + count (length st.tasks) (preempted rule m st before))
