-- The scheduler as it is modelled: the run, what each call does to it, and the histories that it gives. A reader of the contracts has to believe this file for whom a tick names and for how a run is reached.
-- What a tick and a frame start do stands in the crate `levels`; here are the calls around them, and the counts.
use Rattle.std.specs.Prelude.{◌≡◌, ℕ, suc, ◌+◌, ◌-◌, Bool, false, List, [], ◌∷◌, length, Some, None, Option}
use Rattle.choosing.specs.Choosing.{Rule as Choosing}
use Rattle.levels.specs.Sums.{count, passing}
use Rattle.levels.specs.Ticking.{always}
use Rattle.levels.specs.Running.{Machine, State, task, runs, step}
use Rattle.levels.specs.Running.{announce as begin_job}
use Rattle.levels.specs.Opening.{opening}
use Rattle.levels.specs.Counting.{unfinished, preempted}
use Rattle.cores.specs.Naming.{member, Different}
use Rattle.ledger.specs.Openings.{Opening, rates, idle_rates}
use Rattle.ledger.specs.Calls.{Question, present_tick, left_of, deadline_of, is_awaited, reductions_made, jobs_begun, preemptions_made, Call, announce, tick, ask, Answer, refused, done, named, number, History}
use Rattle.ledger.specs.Answering.{Figures, refusal, reply, Answers}

-- What stays as it is from the opening on: unit, frames and cores, how many tasks the sheet has, and the choosing rule.
pub record Setting : Type 0 where
  pub machine : Machine
  pub tasks : ℕ
  pub choose : Choosing

-- The setting of an opening.
abbrev pub setting : Opening → Setting
setting o = record { machine = record { unit = o.unit; frames = o.frames; cores = o.cores }; tasks = length o.sheet; choose = o.choose }

-- What changes: tick, tasks and servers of all levels; the jobs begun; the preemptions; and the test that the last granted
-- tick named a task that had left after it.
pub record Run : Type 0 where
  pub state : State
  pub jobs : ℕ
  pub preemptions : ℕ
  pub before : ℕ → Bool

-- The figures that the scheduler goes by.
abbrev pub run_figures : Setting → Run → Figures
run_figures s r = record {
  cores = s.machine.cores;
  unit = s.machine.unit;
  frames = s.machine.frames;
  tasks = s.tasks;
  reductions = length r.state.levels - 1;
  time = r.state.tick;
  deadline = λ i. (task r.state i).deadline;
  left = λ i. (task r.state i).left;
  jobs = r.jobs;
  preemptions = r.preemptions;
}

-- ---- what each call does

-- The test that task i runs in this tick: the rules name it, from the roots down.
abbrev pub running : Setting → Run → ℕ → Bool
running s r i = runs (always s.choose) s.machine r.state i

-- A list of just the tasks that run, in any order: the cores decide it.
abbrev pub Names : Setting → Run → List ℕ → Type 0
Names s r tasks = Different tasks × ((i : ℕ) → member i tasks ≡ running s r i)

-- Task i begins its next job, due at frame d.
abbrev pub begun : ℕ → ℕ → Run → Run
begun i d r = record { state = begin_job i d r.state; jobs = suc r.jobs; preemptions = r.preemptions; before = r.before }

-- One tick. A task is preempted that the last tick named, that had left after it, and that does not run now.
abbrev pub ticked : Setting → Run → Run
ticked s r = record {
  state = step (always s.choose) s.machine r.state;
  jobs = r.jobs;
  preemptions = r.preemptions + count (length r.state.tasks) (preempted s.choose s.machine r.state r.before);
  before = unfinished s.choose s.machine r.state;
}

-- The run after a granted call. A question leaves it as it is.
abbrev pub granted : Setting → Run → Call → Run
granted s r (announce i d) = begun i d r
granted s r (tick width) = ticked s r
granted s r (ask q) = r

-- A refusal leaves the run as it is.
abbrev pub unless : Option Answer → Run → Run → Run
unless None r next = next
unless (Some refusal) r next = r

-- The run after a call.
abbrev pub after : Setting → Run → Call → Run
after s r call = unless (refusal (run_figures s r) call) r (granted s r call)

-- A call as the scheduler takes it: it gives an answer of the tables by its own figures, and the run goes on like this.
abbrev pub Step : Setting → Run → Call → Answer → Run → Type 0
Step s r call answer next = Answers (run_figures s r) (Names s r) call answer × (next ≡ after s r call)

-- ---- the opening

-- The run over a plan, before any job.
abbrev pub planned : Opening → Run
planned o = record { state = opening (rates o) o.plan; jobs = 0; preemptions = 0; before = λ i. false }

-- Idle tasks, from number i on, begin their jobs.
abbrev pub begin_idle : ℕ → ℕ → List ℕ → Run → Run
begin_idle frames i [] r = r
begin_idle frames i (rate ∷ rates) r = begin_idle frames (suc i) rates (begun i frames r)

-- The run as it is opened: the idle tasks have begun, with a job up to the end.
abbrev pub opened : Opening → Run
opened o = begin_idle o.frames (length o.sheet) (idle_rates o) (planned o)

-- A record never opened: over, with no tasks, tick 0 and all counts 0.
abbrev pub unset : Choosing → Setting
unset choose = record { machine = record { unit = 0; frames = 0; cores = 0 }; tasks = 0; choose = choose }

abbrev pub never_opened : Run
never_opened = record { state = record { tick = 0; tasks = []; levels = [] }; jobs = 0; preemptions = 0; before = λ i. false }

-- What it answers.
abbrev pub blank_reply : Question → Answer
blank_reply present_tick = number 0
blank_reply (left_of i) = refused 12
blank_reply (deadline_of i) = refused 12
blank_reply (is_awaited i) = refused 12
blank_reply reductions_made = number 0
blank_reply jobs_begun = number 0
blank_reply preemptions_made = number 0

abbrev pub blank_answer : Call → Answer
blank_answer (announce i d) = refused 11
blank_answer (tick width) = refused 11
blank_answer (ask q) = blank_reply q

-- ---- histories

-- The scheduler gives a history from a run on: each answer is one that the run gives.
abbrev pub Gives : Setting → Run → History → Type 0
Gives s r [] = Unit {0}
Gives s r (e ∷ entries) = Answers (run_figures s r) (Names s r) e.call e.answer × Gives s (after s r e.call) entries

-- The run at the end of a history.
abbrev pub run_after : Setting → Run → History → Run
run_after s r [] = r
run_after s r (e ∷ entries) = run_after s (after s r e.call) entries

-- A run is reached by a history from an opening.
pub record Reached (o : Opening) (entries : History) (s : Setting) (r : Run) : Type 0 where
  pub set : setting o ≡ s
  pub given : Gives s (opened o) entries
  pub ends : run_after s (opened o) entries ≡ r

-- ---- the scheduler that names the tasks in the order of their numbers, as a function

-- What a granted call answers.
abbrev pub grant : Setting → Run → Call → Answer
grant s r (announce i d) = done
grant s r (tick width) = named (passing 0 (length r.state.tasks) (running s r))
grant s r (ask q) = reply (run_figures s r) q

-- The refusal, if there is one.
abbrev pub refused_or : Option Answer → Answer → Answer
refused_or None answer = answer
refused_or (Some refusal) answer = refusal

-- The answer to a call.
abbrev pub answer_of : Setting → Run → Call → Answer
answer_of s r call = refused_or (refusal (run_figures s r) call) (grant s r call)

-- A list of calls with their answers, from a run on.
abbrev pub history : Setting → Run → List Call → History
history s r [] = []
history s r (call ∷ calls) = record { call = call; answer = answer_of s r call } ∷ history s (after s r call) calls
