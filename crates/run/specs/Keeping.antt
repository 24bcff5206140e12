-- What holds of the tables of every run between any two calls; it makes each call safe.
use Rattle.std.specs.Prelude.{◌≡◌, ℕ, ◌*◌, ◌<◌, ◌≤◌, Bool, true, false, not, ◌&&◌, List, [], ◌∷◌, length, take, None, sum_by, ◌==◌, nat_le, nat_lt, slice_index_or}
use Rattle.cores.specs.Naming.{member}
use Rattle.cores.specs.Placing.{is_task}
use Rattle.run.specs.declared.state.State.{State}
use Rattle.run.specs.Phases.{is_awaited}
use Rattle.run.specs.Turns.{servers_at}
use Rattle.run.specs.Views.{item_of, task_at}

-- The run is not over, and the deadline is the frame that starts at the present tick.
abbrev pub due : State → ℕ → Bool
due s d = not (nat_le (s.unit * s.frames) s.tick) && s.tick == s.unit * d

-- A task of the sheet is marked as awaited exactly if it is.
abbrev pub Phased : State → Type 0
Phased s = (i : ℕ) → i < s.sheet → is_awaited (task_at s i).phase ≡ due s (task_at s i).share.deadline

-- No deadline is after the end, and for each job begun some deadline went up by a frame or more.
abbrev pub DeadlinesWithin : State → Type 0
DeadlinesWithin s = (i : ℕ) → i < s.count → (task_at s i).share.deadline ≤ s.frames

abbrev pub FewJobs : State → Type 0
FewJobs s = s.jobs ≤ sum_by (λ t. t.share.deadline) (take s.count s.tasks)

-- A tick preempts at most the tasks that the tick before named.
abbrev pub FewPreemptions : State → Type 0
FewPreemptions s = s.preemptions ≤ 80 * s.tick

-- The tasks left unfinished are different tasks of the run.
abbrev pub distinct_below : ℕ → List ℕ → Bool
distinct_below n [] = true
distinct_below n (i ∷ is) = nat_lt i n && (not (member i is) && distinct_below n is)

abbrev pub UnfinishedTasks : State → Type 0
UnfinishedTasks s = distinct_below s.count s.unfinished.items ≡ true

-- Each task on a core has that core as its last.
abbrev pub CoresRecorded : State → Type 0
CoresRecorded s = (t c : ℕ) → is_task (slice_index_or s.placing.held c None) t ≡ true → is_task (slice_index_or s.placing.last t None) c ≡ true

-- ---- at the start of a frame; only contracts of private functions cite this

-- No task of the sheet is marked as awaited.
abbrev pub Unmarked : State → Type 0
Unmarked s = (i : ℕ) → i < s.sheet → is_awaited (task_at s i).phase ≡ false

-- Shares and homes of all tasks are as they were.
abbrev pub SameItems : State → State → Type 0
SameItems s s' = (i : ℕ) → item_of (task_at s' i) ≡ item_of (task_at s i)

-- All of it together.
pub record Kept (s : State) : Type 0 where
  pub table : length s.tasks ≡ 80
  pub in_time : s.tick ≤ s.unit * s.frames
  pub phased : Phased s
  pub within : DeadlinesWithin s
  pub jobs : FewJobs s
  pub preemptions : FewPreemptions s
  pub unfinished : UnfinishedTasks s
  pub recorded : CoresRecorded s
  -- there are at most five levels, so at most four reductions
  pub few_levels : length s.levels.items ≤ 5
  -- no level has more than 31 servers
  pub few_servers : (k : ℕ) → length (servers_at s k) ≤ 31
