-- What is called, and what is answered. A reader of the contracts has to believe this file.
use Rattle.std.specs.Prelude.{ℕ, Bool, List, [], ◌∷◌, ◌++◌}

-- The seven questions, of the run or of one task.
pub data Question : Type 0 where
  present_tick : Question
  left_of : ℕ → Question
  deadline_of : ℕ → Question
  is_awaited : ℕ → Question
  reductions_made : Question
  jobs_begun : Question
  preemptions_made : Question

-- Announce for a task the deadline frame of its next job; tick, with a core list of some length; or ask.
pub data Call : Type 0 where
  announce : ℕ → ℕ → Call
  tick : ℕ → Call
  ask : Question → Call

-- A refusal by its number, one that also names a task, and what granted calls answer: an announcement is done, a tick names
-- the task on each core, and a question gets a number or a truth.
pub data Answer : Type 0 where
  refused : ℕ → Answer
  refused_for : ℕ → ℕ → Answer
  done : Answer
  named : List ℕ → Answer
  number : ℕ → Answer
  truth : Bool → Answer

-- A call with its answer.
pub record Entry : Type 0 where
  pub call : Call
  pub answer : Answer

-- What was called and answered since the opening, in order.
abbrev pub History : Type 0
History = List Entry

-- A history with one call and its answer more.
abbrev pub with_call : History → Call → Answer → History
with_call entries call answer = entries ++ record { call = call; answer = answer } ∷ []
