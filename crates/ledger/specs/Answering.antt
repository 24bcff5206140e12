-- Which calls are refused, by which number, and what the others answer. A reader of the contracts has to believe this file.
use Rattle.std.specs.Prelude.{◌≡◌, ℕ, ◌*◌, ◌/◌, Bool, cond, not, ◌&&◌, List, [], ◌∷◌, Some, None, Option, ◌==◌, nat_le, nat_lt}
use Rattle.ledger.specs.Lists.{least}
use Rattle.ledger.specs.Calls.{Question, present_tick, left_of, deadline_of, is_awaited, reductions_made, jobs_begun, preemptions_made, Call, announce, tick, ask, Answer, refused, refused_for, done, named, number, truth}

-- What every answer goes by. The ledger has these figures from its own books (`figures`), the run from its tables.
pub record Figures : Type 0 where
  pub cores : ℕ
  pub unit : ℕ
  pub frames : ℕ
  -- how many tasks the sheet has
  pub tasks : ℕ
  pub reductions : ℕ
  -- the present tick
  pub time : ℕ
  -- the deadline frame of each task's last job, and what is left of it
  pub deadline : ℕ → ℕ
  pub left : ℕ → ℕ
  pub jobs : ℕ
  pub preemptions : ℕ

-- The run is over after its last frame.
abbrev pub over : Figures → Bool
over n = nat_le (n.unit * n.frames) n.time

-- The frame of the present tick.
abbrev pub frame : Figures → ℕ
frame n = n.time / n.unit

-- A task is awaited when the run is not over and its deadline is the frame that starts at the present tick. So none is
-- awaited in the midst of a frame.
abbrev pub awaited : Figures → ℕ → Bool
awaited n i = not (over n) && n.time == n.unit * n.deadline i

-- No task of the sheet has this number. Idle tasks are not on the sheet.
abbrev pub unknown : Figures → ℕ → Bool
unknown n i = nat_le n.tasks i

-- The lowest task of the sheet that is awaited, or the number of the sheet's tasks if none is.
abbrev pub lowest_awaited : Figures → ℕ
lowest_awaited n = least n.tasks (awaited n)

-- ---- the tables of refusals

-- A table has rows of a test and the answer where it holds, in the order of their numbers.
abbrev pub Table : Type 0
Table = List (Bool × Answer)

-- The answer of the first row whose test holds, if any does.
abbrev pub first : Table → Option Answer
first [] = None
first (row ∷ rows) = cond row.0 (Some row.1) (first rows)

-- Announcing: the run is over; no such task; it is not awaited; a deadline at or before this frame; one past the last frame.
abbrev pub announce_refusals : Figures → ℕ → ℕ → Table
announce_refusals n i d =
    (over n, refused 11)
    ∷ (unknown n i, refused 12)
    ∷ (not (awaited n i), refused 13)
    ∷ (nat_le d (frame n), refused 14)
    ∷ (nat_lt n.frames d, refused 15)
    ∷ []

-- Ticking: the run is over; the core list is shorter than the cores; a task is awaited, and the lowest such is named.
abbrev pub tick_refusals : Figures → ℕ → Table
tick_refusals n width =
    (over n, refused 11)
    ∷ (nat_lt width n.cores, refused 21)
    ∷ (nat_lt (lowest_awaited n) n.tasks, refused_for 22 (lowest_awaited n))
    ∷ []

-- Asking of a task: no such task.
abbrev pub task_refusals : Figures → ℕ → Table
task_refusals n i = (unknown n i, refused 12) ∷ []

-- A question of the run is never refused.
abbrev pub question_refusals : Figures → Question → Table
question_refusals n present_tick = []
question_refusals n (left_of i) = task_refusals n i
question_refusals n (deadline_of i) = task_refusals n i
question_refusals n (is_awaited i) = task_refusals n i
question_refusals n reductions_made = []
question_refusals n jobs_begun = []
question_refusals n preemptions_made = []

-- The table of each call.
abbrev pub refusals : Figures → Call → Table
refusals n (announce i d) = announce_refusals n i d
refusals n (tick width) = tick_refusals n width
refusals n (ask q) = question_refusals n q

-- The refusal of a call, or none.
abbrev pub refusal : Figures → Call → Option Answer
refusal n call = first (refusals n call)

-- ---- what granted calls answer

-- What a question is answered.
abbrev pub reply : Figures → Question → Answer
reply n present_tick = number n.time
reply n (left_of i) = number (n.left i)
reply n (deadline_of i) = number (n.deadline i)
reply n (is_awaited i) = truth (awaited n i)
reply n reductions_made = number n.reductions
reply n jobs_begun = number n.jobs
reply n preemptions_made = number n.preemptions

-- The answer of a granted call. A tick names a list of tasks of which `Names` holds.
abbrev pub Grants : Figures → (List ℕ → Type 0) → Call → Answer → Type 0
Grants n Names (announce i d) answer = answer ≡ done
Grants n Names (tick width) answer = (tasks : List ℕ) × (answer ≡ named tasks) × Names tasks
Grants n Names (ask q) answer = answer ≡ reply n q

-- Either the refusal, or what is granted.
abbrev pub Unless : Option Answer → Answer → Type 0 → Type 0
Unless None answer grants = grants
Unless (Some refusal) answer grants = answer ≡ refusal

-- This is an answer to the call: the refusal exactly if a row of the table holds. So a call that is refused without need
-- has no place here, and none that is granted against the table.
abbrev pub Answers : Figures → (List ℕ → Type 0) → Call → Answer → Type 0
Answers n Names call answer = Unless (refusal n call) answer (Grants n Names call answer)
