-- The tables of a run as it is opened, and those of a run that was never opened; only contracts of private functions cite this.
use Rattle.std.specs.Prelude.{◌≡◌, ℕ, suc, ◌-◌, ◌<◌, ◌≤◌, List, [], ◌∷◌, length, take, drop, None, Option, slice_index, slice_index_or}
use Rattle.packing.specs.declared.plan.Plan.{Plan}
use Rattle.packing.specs.Fitting.{Rule}
use Rattle.packing.specs.Plan.{all_tasks, idle, spare, OneSmallPlan}
use Rattle.packing.specs.Openings.{OpeningAllowed}
use Rattle.packing.specs.Tables.{levels_in}
use Rattle.cores.specs.Placing.{blank}
use Rattle.levels.specs.declared.server.Server.{Server}
use Rattle.levels.specs.Running as theory
use Rattle.levels.specs.Opening.{unbegun, homes_in, opening}
use Rattle.run.specs.declared.state.State.{State}
use Rattle.run.specs.declared.task.Event.TheVariants.{Announce}
use Rattle.run.specs.declared.task.Phase.TheVariants.{AtWork, Awaited}
use Rattle.run.specs.declared.task.Task.{Task}
use Rattle.run.specs.Keeping.{Phased, DeadlinesWithin, FewJobs}
use Rattle.run.specs.Phases.{next}
use Rattle.run.specs.Views.{view, machine, task_at}

-- ---- the plan

-- The rates of all tasks.
abbrev pub rates_in : Plan → List ℕ
rates_in p = take p.tasks p.rates

-- The plan of a load within the limits, of which so many tasks are the sheet's.
pub record Fits (p : Plan) (cores frames sheet : ℕ) : Type 0 where
  pub sheet_tasks : sheet ≤ length (rates_in p)
  pub rated : (i : ℕ) → i < length (rates_in p) → 1 ≤ slice_index (rates_in p) i
  pub few_cores : cores ≤ 16
  pub a_unit : 1 ≤ p.unit
  pub small_unit : p.unit ≤ 1000
  pub a_frame : 1 ≤ frames
  pub few_frames : frames ≤ 65535

-- ---- what is written into the tables

-- A task and a server before any job. The first job of a task is awaited.
abbrev pub unbegun_task : ℕ → Option ℕ → Task
unbegun_task rate home = record { share = unbegun rate; home = home; phase = Awaited }

abbrev pub unbegun_server : ℕ → Option ℕ → Server
unbegun_server rate home = record { share = unbegun rate; dual = 0; home = home }

-- One of each rate, with its home.
abbrev pub each : {X : Type 0} → (ℕ → Option ℕ → X) → List ℕ → List (Option ℕ) → List X
each make [] homes = []
each make (rate ∷ rest) homes = make rate (slice_index_or homes 0 None) ∷ each make rest (drop 1 homes)

-- All tasks of a plan.
abbrev pub planned_tasks : Plan → List Task
planned_tasks p = each unbegun_task (rates_in p) (homes_in (levels_in p))

-- A task that begins the job announced for it.
abbrev pub begun_to : ℕ → Task → Task
begun_to frames t = next t (Announce frames)

-- ---- the run

-- Idle tasks, from number i on, begin their jobs.
abbrev pub begin_idle : ℕ → ℕ → List ℕ → theory.State → theory.State
begin_idle frames i [] st = st
begin_idle frames i (rate ∷ rates) st = begin_idle frames (suc i) rates (theory.announce i frames st)

-- The tables of a run as it is opened: the state over the plan, in which the idle tasks have begun.
pub record Filled (p : Plan) (cores frames sheet : ℕ) (s : State) : Type 0 where
  pub shows : view s ≡ begin_idle frames sheet (drop sheet (rates_in p)) (opening (rates_in p) (levels_in p))
  pub runs_on : machine s ≡ record { unit = p.unit; frames = frames; cores = cores }
  pub starts : s.tick ≡ 0
  pub sheet_tasks : s.sheet ≡ sheet
  pub all_tasks : s.count ≡ length (rates_in p)
  pub all_levels : length s.levels.items ≡ length (levels_in p)
  pub begun : s.jobs ≡ length (rates_in p) - sheet
  pub unpreempted : s.preemptions ≡ 0
  pub unplaced : s.placing ≡ blank
  pub none_unfinished : s.unfinished.items ≡ []
  -- a task of the sheet is awaited, and an idle one is at work
  pub awaited : (i : ℕ) → i < sheet → (task_at s i).phase ≡ Awaited
  pub at_work : (i : ℕ) → sheet ≤ i → i < length (rates_in p) → (task_at s i).phase ≡ AtWork
  pub phased : Phased s
  pub within : DeadlinesWithin s
  pub few_jobs : FewJobs s
  pub table : length s.tasks ≡ 80

-- An allowed opening, and the tables of its run over the plan of its tasks.
pub record Opens (rule : Rule) (cores unit frames : ℕ) (sheet : List ℕ) (s : State) : Type 0 where
  pub allowed : OpeningAllowed cores unit frames sheet
  pub plan : OneSmallPlan rule unit cores (all_tasks cores unit sheet)
  pub shows : view s ≡ begin_idle frames (length sheet) (idle unit (spare cores unit sheet)) (opening (all_tasks cores unit sheet) plan.levels)
  pub runs_on : machine s ≡ record { unit = unit; frames = frames; cores = cores }
  pub starts : s.tick ≡ 0
  pub sheet_tasks : s.sheet ≡ length sheet
  pub begun : s.jobs ≡ length (idle unit (spare cores unit sheet))
  pub unpreempted : s.preemptions ≡ 0
  pub unplaced : s.placing ≡ blank
  pub none_unfinished : s.unfinished.items ≡ []
  pub phased : Phased s
  pub within : DeadlinesWithin s
  pub few_jobs : FewJobs s
  pub table : length s.tasks ≡ 80

-- A run that was never opened: over, with no tasks, tick 0 and all counts 0.
pub record NeverOpened (s : State) : Type 0 where
  pub shows : view s ≡ record { tick = 0; tasks = []; levels = [] }
  pub runs_on : machine s ≡ record { unit = 0; frames = 0; cores = 0 }
  pub no_sheet : s.sheet ≡ 0
  pub unbegun : s.jobs ≡ 0
  pub unpreempted : s.preemptions ≡ 0
  pub unplaced : s.placing ≡ blank
  pub none_unfinished : s.unfinished.items ≡ []
  pub phased : Phased s
  pub within : DeadlinesWithin s
  pub few_jobs : FewJobs s
  pub table : length s.tasks ≡ 80
