-- A run with other tables; only contracts of private functions cite this.
use Rattle.std.specs.Prelude.{◌≡◌, ℕ, suc, ◌<◌, ◌≤◌, List, length, slice_index_or, slice_set}
use Rattle.arrayvec.specs.ArrayVec.{ArrayVec}
use Rattle.cores.specs.declared.place.Cores.{Cores}
use Rattle.levels.specs.declared.server.Server.{Server}
use Rattle.run.specs.declared.state.State.{State}
use Rattle.run.specs.declared.task.Task.{Task}

-- What can change of a run; the rest stays as it was opened.
abbrev pub remade : State → (tick : ℕ) → List Task → ArrayVec (ArrayVec Server) → (jobs preemptions : ℕ) → Cores → ArrayVec ℕ → State
remade s tick tasks levels jobs preemptions placing unfinished = record {
  cores = s.cores;
  unit = s.unit;
  frames = s.frames;
  tick = tick;
  sheet = s.sheet;
  tasks = tasks;
  count = s.count;
  levels = levels;
  jobs = jobs;
  preemptions = preemptions;
  placing = placing;
  unfinished = unfinished;
  few_tasks = s.few_tasks;
  sheet_tasks = s.sheet_tasks;
  few_cores = s.few_cores;
  small_unit = s.small_unit;
  few_frames = s.few_frames;
}

-- Another tick, other tasks and other levels.
abbrev pub with_all : State → ℕ → List Task → ArrayVec (ArrayVec Server) → State
with_all s tick tasks levels = remade s tick tasks levels s.jobs s.preemptions s.placing s.unfinished

abbrev pub with_tables : State → List Task → ArrayVec (ArrayVec Server) → State
with_tables s tasks levels = with_all s s.tick tasks levels

abbrev pub with_levels : State → ArrayVec (ArrayVec Server) → State
with_levels s levels = with_tables s s.tasks levels

abbrev pub with_level : State → ℕ → ArrayVec Server → State
with_level s k level = with_levels s (record { items = slice_set s.levels.items k level })

abbrev pub with_tasks : State → List Task → State
with_tasks s tasks = with_tables s tasks s.levels

abbrev pub with_placing : State → Cores → State
with_placing s placing = remade s s.tick s.tasks s.levels s.jobs s.preemptions placing s.unfinished

-- One job more, in these tasks.
abbrev pub with_job : State → List Task → State
with_job s tasks = remade s s.tick tasks s.levels (suc s.jobs) s.preemptions s.placing s.unfinished

-- The first i elements are changed by f, each with its place; the rest are as they were.
pub record Changed {X : Type 0} (d : X) (f : ℕ → X → X) (old new : List X) (i : ℕ) : Type 0 where
  pub long : length new ≡ length old
  pub done : (q : ℕ) → q < i → slice_index_or new q d ≡ f q (slice_index_or old q d)
  pub rest : (q : ℕ) → i ≤ q → slice_index_or new q d ≡ slice_index_or old q d
