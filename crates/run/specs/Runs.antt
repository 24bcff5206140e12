-- The tables of a run, read as the run that the laws speak of, and what the calls answer and leave. A reader of the contracts has to believe this file.
use Rattle.std.specs.Prelude.{◌≡◌, ℕ, ◌<◌, Bool, true, List, length, take, Some, None, Ok, Err, Option, Result}
use Rattle.packing.specs.declared.opening.OpeningRefusal.{OpeningRefusal}
use Rattle.packing.specs.Fitting.{Rule as Fitting}
use Rattle.packing.specs.Plan.{all_tasks, OneSmallPlan}
use Rattle.packing.specs.Openings.{FirstOfOpening}
use Rattle.choosing.specs.Choosing.{Rule}
use Rattle.cores.specs.Naming.{member, Names}
use Rattle.cores.specs.Placing.{blank, limited, placed, written}
use Rattle.cores.specs.Laws.{On, Lawful, Listed}
use Rattle.levels.specs.Sums.{passing}
use Rattle.ledger.specs.Calls.{Call, tick, Answer, done, named, number, truth}
use Rattle.ledger.specs.Answering.{Figures, refusal}
use Rattle.ledger.specs.Scheduler.{Setting, Run, Step, run_figures, running, ticked, setting, opened, unset, never_opened}
use Rattle.ledger.specs.Openings.{Granted, opening_of}
use Rattle.ledger.specs.Theorems.{CallConforms, FreshRun}
use Rattle.run.specs.declared.refusal.Refusal.{Refusal}
use Rattle.run.specs.declared.state.State.{State}
use Rattle.run.specs.Refusals.{told}
use Rattle.run.specs.Views.{view, machine}

-- What the run is set to, and what changes.
abbrev pub setting_of : Rule → State → Setting
setting_of choose s = record { machine = machine s; tasks = s.sheet; choose = choose }

abbrev pub run_of : State → Run
run_of s = record { state = view s; jobs = s.jobs; preemptions = s.preemptions; before = λ i. member i s.unfinished.items }

-- The figures that answers go by. No rule counts for them; so that of a rule that names none will do.
abbrev pub figures_of : State → Figures
figures_of s = run_figures (setting_of (λ _ _. None) s) (run_of s)

-- ---- what the code's answers say

abbrev pub announced : {Done : Type 0} → Result Done Refusal → Answer
announced (Ok _) = done
announced (Err e) = told e

abbrev pub number_told : Result ℕ Refusal → Answer
number_told (Ok n) = number n
number_told (Err e) = told e

abbrev pub truth_told : Result Bool Refusal → Answer
truth_told (Ok b) = truth b
truth_told (Err e) = told e

-- A refusal, if there is one.
abbrev pub refusal_told : {Done : Type 0} → Result Done Refusal → Option Answer
refusal_told (Ok _) = None
refusal_told (Err e) = Some (told e)

-- ---- what follows from a call

-- A call on a run gets its answer and leaves the run after it. It is a step of the scheduler, by the refusals, replies, steps
-- and counts of its definition; and for every history by which the run was reached, the history with this call conforms to
-- the ledger and reaches the run after it.
pub record Follows (choose : Rule) (s : State) (call : Call) (answer : Answer) (s' : State) : Type 0 where
  pub step : Step (setting_of choose s) (run_of s) call answer (run_of s')
  pub stays : setting_of choose s' ≡ setting_of choose s
  pub law : CallConforms (setting_of choose s) (run_of s) call answer (run_of s')

-- The same without the step: the law of the call, and what the run is set to stays.
pub record Lawfully (choose : Rule) (s : State) (call : Call) (answer : Answer) (s' : State) : Type 0 where
  pub stays : setting_of choose s' ≡ setting_of choose s
  pub law : CallConforms (setting_of choose s) (run_of s) call answer (run_of s')

-- A refused call leaves all as found.
abbrev pub AsFound : {Done X : Type 0} → Result Done Refusal → X → X → Type 0
AsFound (Ok _) old new = Unit {0}
AsFound (Err e) old new = new ≡ old

-- ---- what follows from a tick

-- The tasks that run in this tick, in number order.
abbrev pub named_by : Rule → State → List ℕ
named_by choose s = passing 0 s.count (running (setting_of choose s) (run_of s))

-- The answer of a tick: its refusal, or the task on each core, as the core list has them.
abbrev pub ticked_as : {Done : Type 0} → ℕ → List ℕ → Result Done Refusal → Answer
ticked_as cores list (Ok _) = named (take cores list)
ticked_as cores list (Err e) = told e

-- A granted tick: the run goes on as the scheduler does; the tasks that run are placed on the cores, and the core list shows
-- them, by the rule of the cores and with its laws.
pub record GrantedTick (choose : Rule) (s : State) (old : List ℕ) (s' : State) (new : List ℕ) : Type 0 where
  pub granted : None ≡ refusal (figures_of s) (tick (length old))
  pub goes : run_of s' ≡ ticked (setting_of choose s) (run_of s)
  pub stays : setting_of choose s' ≡ setting_of choose s
  -- the tasks named are those that run, each once
  pub exactly : Names (running (setting_of choose s) (run_of s)) (named_by choose s)
  pub placing : s'.placing ≡ placed s.placing (named_by choose s) (limited s.cores)
  pub list : new ≡ written s'.placing.held old
  pub lawful : Lawful s.placing (named_by choose s) (limited s.cores) s'.placing
  pub listed : Listed (named_by choose s) (limited s.cores) s'.placing old new
  -- a task that the last granted tick put on a core and that runs again is on the same core
  pub keeps : (t c : ℕ) → On s.placing t c → member t (named_by choose s) ≡ true → c < s.cores → On s'.placing t c

-- A tick is refused by the first row that holds, and all is as found; or it is granted.
abbrev pub Ticked : {Done : Type 0} → Rule → State → List ℕ → State → List ℕ → Result Done Refusal → Type 0
Ticked choose s old s' new (Err e) = (Some (told e) ≡ refusal (figures_of s) (tick (length old))) × (s' ≡ s) × (new ≡ old)
Ticked choose s old s' new (Ok _) = GrantedTick choose s old s' new

-- ---- what follows from an opening

-- A granted opening: the run over the plan of the load, in which the idle tasks have begun and no task has run on a core. It is
-- reached by the history of no calls, which conforms to the ledger, and it is fresh.
pub record OpenedRun (fit : Fitting) (choose : Rule) (cores unit frames : ℕ) (sheet : List ℕ) (s' : State) : Type 0 where
  pub plan : OneSmallPlan fit unit cores (all_tasks cores unit sheet)
  pub granted : Granted (opening_of cores unit frames sheet fit choose plan.levels)
  pub goes : run_of s' ≡ opened (opening_of cores unit frames sheet fit choose plan.levels)
  pub stays : setting_of choose s' ≡ setting (opening_of cores unit frames sheet fit choose plan.levels)
  pub placing : s'.placing ≡ blank
  pub fresh : FreshRun (opening_of cores unit frames sheet fit choose plan.levels) (setting_of choose s') (run_of s')

-- An opening is refused by the first row that holds, and the run is as found; or it is granted.
abbrev pub OpenedAs : {Done : Type 0} → Fitting → Rule → ℕ → ℕ → ℕ → List ℕ → State → State → Result Done OpeningRefusal → Type 0
OpenedAs fit choose cores unit frames sheet s s' (Err e) = FirstOfOpening cores unit frames sheet e × (s' ≡ s)
OpenedAs fit choose cores unit frames sheet s s' (Ok _) = OpenedRun fit choose cores unit frames sheet s'

-- A record never opened: a run that is over, with no tasks, tick 0 and all counts 0, and no task has run on a core.
pub record BlankRun (choose : Rule) (s : State) : Type 0 where
  pub goes : run_of s ≡ never_opened
  pub stays : setting_of choose s ≡ unset choose
  pub placing : s.placing ≡ blank
