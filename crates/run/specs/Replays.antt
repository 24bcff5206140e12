-- Calls and answers as values, and what a list of calls comes to. A reader of the contracts has to believe this file.
use Rattle.std.specs.Prelude.{◌≡◌, ℕ, min, List, [], ◌∷◌, ◌++◌, length, take, drop, Ok, Err, Result}
use Rattle.packing.specs.declared.opening.OpeningRefusal.{OpeningRefusal}
use Rattle.packing.specs.Fitting.{Rule as Fitting}
use Rattle.packing.specs.Openings.{FirstOfOpening}
use Rattle.choosing.specs.Choosing.{Rule}
use Rattle.ledger.specs.Calls as ledger
use Rattle.ledger.specs.Calls.{History}
use Rattle.ledger.specs.Ledger.{fresh, Conforms}
use Rattle.ledger.specs.Openings.{Opening, Granted, opening_of}
use Rattle.ledger.specs.Scheduler.{Reached}
use Rattle.run.specs.declared.call.Call.{Call}
use Rattle.run.specs.declared.call.Call.TheVariants.{Announce, Tick, Ask}
use Rattle.run.specs.declared.call.Question.{Question}
use Rattle.run.specs.declared.call.Question.TheVariants.{PresentTick, Left, Deadline, Awaited, Reductions, Jobs, Preemptions}
use Rattle.run.specs.declared.call.Reply.{Reply}
use Rattle.run.specs.declared.call.Reply.TheVariants.{Done, Named, Number, Truth}
use Rattle.run.specs.declared.refusal.Refusal.{Refusal}
use Rattle.run.specs.declared.state.State.{State}
use Rattle.run.specs.Refusals.{told}
use Rattle.run.specs.Runs.{run_of, setting_of, Follows, OpenedRun, Ticked, ticked_as}

-- The answer to a call: the reply, or why it is refused.
abbrev pub Answer : Type 0
Answer = Result Reply Refusal

-- Each question, call and answer, as the ledger knows it. A refusal is its number, and the task that it names.
abbrev pub question_of : Question → ledger.Question
question_of PresentTick = ledger.present_tick
question_of (Left i) = ledger.left_of i
question_of (Deadline i) = ledger.deadline_of i
question_of (Awaited i) = ledger.is_awaited i
question_of Reductions = ledger.reductions_made
question_of Jobs = ledger.jobs_begun
question_of Preemptions = ledger.preemptions_made

abbrev pub call_of : Call → ledger.Call
call_of (Announce i d) = ledger.announce i d
call_of (Tick n) = ledger.tick n
call_of (Ask q) = ledger.ask (question_of q)

abbrev pub reply_of : Reply → ledger.Answer
reply_of Done = ledger.done
reply_of (Named l) = ledger.named (take l.cores l.tasks)
reply_of (Number n) = ledger.number n
reply_of (Truth b) = ledger.truth b

abbrev pub answer_of : Answer → ledger.Answer
answer_of (Ok r) = reply_of r
answer_of (Err e) = told e

-- Calls with their answers, as far as both lists go.
abbrev pub history_of : List Call → List Answer → History
history_of [] answers = []
history_of (call ∷ calls) [] = []
history_of (call ∷ calls) (answer ∷ answers) = record { call = call_of call; answer = answer_of answer } ∷ history_of calls answers

-- ---- what a call comes to that is put to a run

-- A tick with a core list of n entries: the answer is that of the tick, with the task on each core.
pub record TickAnswered (choose : Rule) (s : State) (n : ℕ) (answer : Answer) (s' : State) : Type 0 where
  pub old : List ℕ
  pub new : List ℕ
  pub outcome : Result (Unit {0}) Refusal
  pub entries : length old ≡ n
  pub ticked : Ticked choose s old s' new outcome
  pub shown : answer_of answer ≡ ticked_as s.cores new outcome

-- What a call is answered, and the run that it leaves: what the call itself would have answered and left.
abbrev pub Answered : Rule → State → Call → Answer → State → Type 0
Answered choose s (Announce i d) answer s' = Follows choose s (ledger.announce i d) (answer_of answer) s' × (s'.placing ≡ s.placing)
Answered choose s (Tick n) answer s' = TickAnswered choose s n answer s'
Answered choose s (Ask q) answer s' = Follows choose s (ledger.ask (question_of q)) (answer_of answer) s × (s' ≡ s)

-- Calls that were put one after the other, each with its answer, as far as both lists go.
abbrev pub AllAnswered : Rule → State → List Call → List Answer → State → Type 0
AllAnswered choose s [] answers s' = s' ≡ s
AllAnswered choose s (call ∷ calls) [] s' = s' ≡ s
AllAnswered choose s (call ∷ calls) (answer ∷ answers) s' = (next : State) × Answered choose s call answer next × AllAnswered choose next calls answers s'

-- By which history a run goes on: whatever history reached it, that history and this one reach the run after it.
abbrev pub GoesOnBy : Rule → State → History → Rule → State → Type 0
GoesOnBy choose s entries choose' s' =
    (o : Opening) → Granted o → (before : History) → Reached o before (setting_of choose s) (run_of s) → Reached o (before ++ entries) (setting_of choose' s') (run_of s')

-- A list of calls was put to a run that was opened by these arguments: n calls were answered, as many as there is room for, each
-- as the run answers it, and their history conforms to the ledger. The entries behind are as found.
pub record Played (fit : Fitting) (choose : Rule) (cores unit frames : ℕ) (sheet : List ℕ) (calls : List Call) (old new : List Answer) (n : ℕ) : Type 0 where
  pub start : State
  pub end : State
  pub opened : OpenedRun fit choose cores unit frames sheet start
  pub all : n ≡ min (length calls) (length old)
  pub answered : AllAnswered choose start (take n calls) (take n new) end
  pub conforms : Conforms (opening_of cores unit frames sheet fit choose opened.plan.levels) (fresh (opening_of cores unit frames sheet fit choose opened.plan.levels)) (history_of (take n calls) (take n new))
  pub behind : drop n new ≡ drop n old

-- The opening is refused, by the first row that holds, and the answers are as found; or the calls were put.
abbrev pub Replayed : Fitting → Rule → ℕ → ℕ → ℕ → List ℕ → List Call → List Answer → List Answer → Result ℕ OpeningRefusal → Type 0
Replayed fit choose cores unit frames sheet calls old new (Err e) = FirstOfOpening cores unit frames sheet e × (new ≡ old)
Replayed fit choose cores unit frames sheet calls old new (Ok n) = Played fit choose cores unit frames sheet calls old new n
