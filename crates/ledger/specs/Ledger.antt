-- The ledger of a run: kept from the opening's arguments, the calls and the tasks that granted ticks named, and from nothing else. A reader of the contracts has to believe this file.
use Rattle.std.specs.Prelude.{◌≡◌, ℕ, suc, ◌+◌, ◌-◌, ◌*◌, ◌<◌, ◌≤◌, cond, not, ◌&&◌, List, [], ◌∷◌, ◌++◌, length, is_some, Some, None, filter, Option, ◌==◌, nat_lt}
use Rattle.std.specs.List.{AllByRecursion}
use Rattle.choosing.specs.Choosing.{GoesOn}
use Rattle.cores.specs.Naming.{member, Different}
use Rattle.ledger.specs.Openings.{Opening, idle_rates, rates, rate, reductions}
use Rattle.ledger.specs.Calls.{Call, announce, tick, ask, Answer, refused, refused_for, done, named, number, truth, History}
use Rattle.ledger.specs.Answering.{Figures, frame, Answers}

-- ---- the books

-- A job of a task: the frames of its release and of its deadline, and the times at which it was held, in order.
pub record Job : Type 0 where
  pub task : ℕ
  pub release : ℕ
  pub deadline : ℕ
  pub held : List ℕ

-- The present time; the jobs, oldest first; the tasks that the last granted tick named and that had left after it; and the
-- preemptions so far.
pub record Ledger : Type 0 where
  pub time : ℕ
  pub jobs : List Job
  pub unfinished : List ℕ
  pub preemptions : ℕ

-- The first of two that is there.
abbrev pub or_else : Option Job → Option Job → Option Job
or_else None job = job
or_else (Some later) job = Some later

-- The last job of task i, if it has any.
abbrev pub last_job : ℕ → List Job → Option Job
last_job i [] = None
last_job i (job ∷ jobs) = or_else (last_job i jobs) (cond (job.task == i) (Some job) None)

-- For how many ticks a job is to be held: rate × frames.
abbrev pub length_of : Opening → Job → ℕ
length_of o job = rate o job.task * (job.deadline - job.release)

-- The deadline of a last job, and what is left of it; with no job both are 0.
abbrev pub job_deadline : Option Job → ℕ
job_deadline None = 0
job_deadline (Some job) = job.deadline

abbrev pub job_left : Opening → Option Job → ℕ
job_left o None = 0
job_left o (Some job) = length_of o job - length job.held

-- What is left of the last job of task i.
abbrev pub left : Opening → List Job → ℕ → ℕ
left o jobs i = job_left o (last_job i jobs)

-- The figures that the ledger goes by.
abbrev pub figures : Opening → Ledger → Figures
figures o l = record {
  cores = o.cores;
  unit = o.unit;
  frames = o.frames;
  tasks = length o.sheet;
  reductions = reductions o;
  time = l.time;
  deadline = λ i. job_deadline (last_job i l.jobs);
  left = left o l.jobs;
  jobs = length l.jobs;
  preemptions = l.preemptions;
}

-- ---- what the ledger expects

-- A granted tick names as many different tasks as cores, each with left above 0.
pub record FullTick (o : Opening) (l : Ledger) (tasks : List ℕ) : Type 0 where
  pub as_cores : length tasks ≡ o.cores
  pub different : Different tasks
  pub with_left : AllByRecursion (λ i. (i < length (rates o)) × (1 ≤ left o l.jobs i)) tasks

-- This is an answer that the ledger gives.
abbrev pub expected : Opening → Ledger → Call → Answer → Type 0
expected o l call answer = Answers (figures o l) (FullTick o l) call answer

-- ---- what is posted

-- The job with one more time.
abbrev pub at_time : ℕ → Job → Job
at_time t job = record { task = job.task; release = job.release; deadline = job.deadline; held = job.held ++ t ∷ [] }

-- Time t is added to the last job of each task named.
abbrev pub hold : ℕ → List ℕ → List Job → List Job
hold t tasks [] = []
hold t tasks (job ∷ jobs) = cond (member job.task tasks && not (is_some (last_job job.task jobs))) (at_time t job) job ∷ hold t tasks jobs

-- A granted announcement adds a job from this frame to that deadline.
abbrev pub post_announcement : Opening → Ledger → Call → Ledger
post_announcement o l (announce i d) = record {
  time = l.time;
  jobs = l.jobs ++ record { task = i; release = frame (figures o l); deadline = d; held = [] } ∷ [];
  unfinished = l.unfinished;
  preemptions = l.preemptions;
}
post_announcement o l (tick width) = l
post_announcement o l (ask q) = l

-- A granted tick adds its time to the jobs held, and then 1 to the time. A task is preempted that was unfinished and is not
-- named.
abbrev pub post_tick : Opening → Ledger → List ℕ → Ledger
post_tick o l tasks = record {
  time = suc l.time;
  jobs = hold l.time tasks l.jobs;
  unfinished = filter (λ i. nat_lt 0 (left o (hold l.time tasks l.jobs) i)) tasks;
  preemptions = l.preemptions + length (filter (λ i. not (member i tasks)) l.unfinished);
}

-- The ledger after a call and its answer. A refusal and a question change nothing.
abbrev pub posted : Opening → Ledger → Call → Answer → Ledger
posted o l call (refused n) = l
posted o l call (refused_for n i) = l
posted o l call done = post_announcement o l call
posted o l call (named tasks) = post_tick o l tasks
posted o l call (number n) = l
posted o l call (truth b) = l

-- The ledger at the end of a history.
abbrev pub ledger_after : Opening → Ledger → History → Ledger
ledger_after o l [] = l
ledger_after o l (e ∷ entries) = ledger_after o (posted o l e.call e.answer) entries

-- The jobs of tasks from number i on, one for each rate, from frame 0 to the end.
abbrev pub idle_jobs : ℕ → ℕ → List ℕ → List Job
idle_jobs frames i [] = []
idle_jobs frames i (r ∷ rates) = record { task = i; release = 0; deadline = frames; held = [] } ∷ idle_jobs frames (suc i) rates

-- At the opening the time is 0, and the jobs are those of the idle tasks.
abbrev pub fresh : Opening → Ledger
fresh o = record { time = 0; jobs = idle_jobs o.frames (length o.sheet) (idle_rates o); unfinished = []; preemptions = 0 }

-- ---- the laws

-- Strictly rising times, all from `start` to before `end`.
abbrev pub Rising : ℕ → ℕ → List ℕ → Type 0
Rising start end [] = Unit {0}
Rising start end (t ∷ times) = (start ≤ t) × (t < end) × Rising (suc t) end times

-- The law of a job: it is held at strictly rising times, from its release to before its deadline; and from its deadline on it
-- has been held exactly for its length.
pub record Served (o : Opening) (time : ℕ) (job : Job) : Type 0 where
  pub in_window : Rising (o.unit * job.release) (o.unit * job.deadline) job.held
  pub in_full : o.unit * job.deadline ≤ time → length job.held ≡ length_of o job

-- The laws of a run: every job is served; there are at most four reductions; and a rule that goes on with the client that it
-- named makes at most (2 × reductions + 1) × jobs preemptions.
pub record Kept (o : Opening) (l : Ledger) : Type 0 where
  pub served : AllByRecursion (Served o l.time) l.jobs
  pub few_reductions : reductions o ≤ 4
  pub few_preemptions : GoesOn o.choose → l.preemptions ≤ (2 * reductions o + 1) * length l.jobs

-- A history conforms: all the way through it the laws are kept, and each answer is one that the ledger gives.
--
-- Who would cheat is caught here: a tick, or an announcement, that is refused without need, by `Answers`; a tick that leaves
-- a core idle, gives a task two cores or more than its job's ticks, by `FullTick`; a job that is held too little or
-- outside its window, by `Served`; an announcement that is granted and not stored, a preemption that is not counted, a time
-- that stands still, by the questions, which the ledger answers from its own books.
-- Not caught here is a scheduler that keeps all this and never asks its rule. That the tasks of a tick are those that the
-- rules name, from the roots down, is said by `Names` (Scheduler), and `ConformingIsNotEnough` (Theorems) shows the
-- difference.
abbrev pub Conforms : Opening → Ledger → History → Type 0
Conforms o l [] = Kept o l
Conforms o l (e ∷ entries) = Kept o l × expected o l e.call e.answer × Conforms o (posted o l e.call e.answer) entries
