-- The laws of runs, each carried by the function of its name. A reader of the contracts has to believe this file.
use Rattle.std.specs.Prelude.{◌≡◌, ℕ, ◌*◌, ◌<◌, ◌≤◌, ◌⊎◌, List, [], length}
use Rattle.packing.specs.Fitting.{Rule as Fitting, Lawful as LawfulFitting}
use Rattle.packing.specs.Packing.{Packing}
use Rattle.packing.specs.Openings.{OpeningAllowed}
use Rattle.choosing.specs.Choosing.{Rule as Choosing, Lawful as LawfulChoosing}
use Rattle.cores.specs.Naming.{member}
use Rattle.ledger.specs.Openings.{Opening, opening_of, Granted, idle_rates, rates, rate}
use Rattle.ledger.specs.Calls.{Call, Answer, named, History, with_call}
use Rattle.ledger.specs.Answering.{Answers}
use Rattle.ledger.specs.Ledger.{Ledger, figures, ledger_after, fresh, Conforms}
use Rattle.ledger.specs.Scheduler.{Setting, setting, Run, run_figures, Names, Step, opened, unset, never_opened, blank_answer, Gives, Reached, answer_of, history}
use Rattle.ledger.specs.Worked.{three_loops, one_loop, calls_of, worked, worked_ledger, worked_idle, worked_idle_ledger, missed_deadline, idle_core, on_two_cores, past_its_share, granted_too_soon, refused_without_need, preemption_not_counted, left_off_by_one, not_stored, time_stands, against_the_rule}

-- ---- openings

-- Every load, with its frames, that no row refuses is granted with any two lawful rules, over one plan and no other.
abbrev pub EveryAllowedLoadOpens : Type 0
EveryAllowedLoadOpens =
    (cores unit frames : ℕ) (sheet : List ℕ) → OpeningAllowed cores unit frames sheet → (fit : Fitting) → LawfulFitting fit → (choose : Choosing) → LawfulChoosing choose
    → (plan : List Packing) × Granted (opening_of cores unit frames sheet fit choose plan)
    × ((other : List Packing) → Granted (opening_of cores unit frames sheet fit choose other) → other ≡ plan)

-- What is wanted of a run that was just opened: time and preemptions are 0, the jobs begun are those of the idle tasks and no
-- others, each from frame 0 to the end, and the sheet's tasks have none. The ledger has the same figures. The run is
-- reached by the history of no calls, and that conforms.
pub record FreshRun (o : Opening) (s : Setting) (r : Run) : Type 0 where
  pub time : (run_figures s r).time ≡ 0
  pub preemptions : (run_figures s r).preemptions ≡ 0
  pub jobs : (run_figures s r).jobs ≡ length (idle_rates o)
  pub sheet : (i : ℕ) → i < length o.sheet → ((run_figures s r).deadline i ≡ 0) × ((run_figures s r).left i ≡ 0)
  pub idle : (i : ℕ) → length o.sheet ≤ i → i < length (rates o) → ((run_figures s r).deadline i ≡ o.frames) × ((run_figures s r).left i ≡ rate o i * o.frames)
  pub figures : run_figures s r ≡ figures o (fresh o)
  pub reached : Reached o [] s r
  pub conforms : Conforms o (fresh o) []

abbrev pub EveryOpeningIsFresh : Type 0
EveryOpeningIsFresh = (o : Opening) → Granted o → FreshRun o (setting o) (opened o)

-- A record never opened gives the answers of a run that is over, and no others, and stays as it is.
abbrev pub ABlankRunIsOver : Type 0
ABlankRunIsOver = (choose : Choosing) (call : Call) (answer : Answer) (next : Run)
    → (Step (unset choose) never_opened call answer next → (answer ≡ blank_answer call) × (next ≡ never_opened))
    × Step (unset choose) never_opened call (blank_answer call) never_opened

-- ---- histories

-- Whatever the calls of an opening, granted or refused, and in whatever order a tick names its tasks: the history that the
-- scheduler gives conforms to the ledger.
abbrev pub HistoriesConform : Opening → Type 0
HistoriesConform o = (entries : History) → Gives (setting o) (opened o) entries → Conforms o (fresh o) entries

-- So it is for every granted opening.
abbrev pub EveryHistoryConforms : Type 0
EveryHistoryConforms = (o : Opening) → Granted o → HistoriesConform o

-- The law of one call, for the contract of each: for every history by which this run was reached, the history with this call
-- and its answer conforms, and reaches the run after it.
abbrev pub CallConforms : Setting → Run → Call → Answer → Run → Type 0
CallConforms s r call answer next =
    (o : Opening) → Granted o → (entries : History) → Reached o entries s r
    → Conforms o (fresh o) (with_call entries call answer) × Reached o (with_call entries call answer) s next

-- Every call that is a step of the scheduler keeps it. To be such a step is all that code owes.
abbrev pub EveryCallConforms : Type 0
EveryCallConforms = (s : Setting) (r : Run) (call : Call) (answer : Answer) (next : Run) → Step s r call answer next → CallConforms s r call answer next

-- Of any run whatever, granted or not: each call has an answer, and all its answers are the same but for the order in which a
-- tick names its tasks.
abbrev pub SameAnswer : Answer → Answer → Type 0
SameAnswer a b = (a ≡ b) ⊎ ((xs : List ℕ) × (ys : List ℕ) × (a ≡ named xs) × (b ≡ named ys) × ((i : ℕ) → member i xs ≡ member i ys))

abbrev pub EveryCallHasOneAnswer : Type 0
EveryCallHasOneAnswer =
    (s : Setting) (r : Run) (call : Call)
    → Answers (run_figures s r) (Names s r) call (answer_of s r call)
    × ((answer : Answer) → Answers (run_figures s r) (Names s r) call answer → SameAnswer answer (answer_of s r call))

-- For every list of calls there is a history, and it conforms.
abbrev pub EveryListOfCallsConforms : Type 0
EveryListOfCallsConforms = (o : Opening) → Granted o → (calls : List Call) → Conforms o (fresh o) (history (setting o) (opened o) calls)

-- Of two rules: every load, with its frames, that the table allows opens with them, over some plan, and every history of its calls conforms.
abbrev pub RunsConform : Fitting → Choosing → Type 0
RunsConform fit choose =
    (cores unit frames : ℕ) (sheet : List ℕ) → OpeningAllowed cores unit frames sheet
    → (plan : List Packing) × Granted (opening_of cores unit frames sheet fit choose plan) × HistoriesConform (opening_of cores unit frames sheet fit choose plan)

-- ---- histories worked out

-- A granted opening answers the calls of a history so, and the ledger comes to this.
abbrev pub Given : Opening → History → Ledger → Type 0
Given o entries books = Granted o × (history (setting o) (opened o) (calls_of entries) ≡ entries) × (ledger_after o (fresh o) entries ≡ books)

abbrev pub AWorkedHistory : Type 0
AWorkedHistory = Given three_loops worked worked_ledger × Given one_loop worked_idle worked_idle_ledger

-- A history of the three loops does not conform.
abbrev pub Fails : History → Type 0
Fails entries = Conforms three_loops (fresh three_loops) entries → ⊥

abbrev pub WrongHistoriesDoNotConform : Type 0
WrongHistoriesDoNotConform =
    Fails missed_deadline × Fails idle_core × Fails on_two_cores × Fails past_its_share × Fails granted_too_soon × Fails refused_without_need
    × Fails preemption_not_counted × Fails left_off_by_one × Fails not_stored × Fails time_stands

-- A history in which each job gets its share in time conforms, although its ticks do not name whom the rule names. The
-- scheduler does not give it.
abbrev pub ConformingIsNotEnough : Type 0
ConformingIsNotEnough = Conforms one_loop (fresh one_loop) against_the_rule × (Gives (setting one_loop) (opened one_loop) against_the_rule → ⊥)
