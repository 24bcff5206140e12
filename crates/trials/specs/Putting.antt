-- What is answered to a call of the table, in the words of the contracts of a run. A reader of the contracts has to believe this file.
use Rattle.std.specs.Prelude.{◌≡◌, ℕ, min, length, replicate, Some, Ok, Err, vec_items, Result}
use Rattle.packing.specs.declared.opening.OpeningRefusal.{OpeningRefusal}
use Rattle.packing.specs.Fitting.{Rule as Fitting}
use Rattle.packing.specs.Rules.{first_fit, best_fit, worst_fit}
use Rattle.choosing.specs.Choosing.{Rule}
use Rattle.choosing.specs.Rules.{earliest_deadline, least_slack}
use Rattle.ledger.specs.Answering.{refusal}
use Rattle.ledger.specs.Calls.{announce, tick, ask, Answer as RunAnswer, named}
use Rattle.run.specs.declared.call.Reply.TheVariants.{Done}
use Rattle.run.specs.declared.refusal.Refusal.{Refusal}
use Rattle.run.specs.declared.state.State.{State}
use Rattle.run.specs.Refusals.{by_number}
use Rattle.run.specs.Replays.{question_of, reply_of}
use Rattle.run.specs.Runs.{OpenedAs, Follows, AsFound, GrantedTick, announced, figures_of}
use Rattle.trials.specs.declared.answer.Refused.{Refused}
use Rattle.trials.specs.declared.answer.Refused.TheVariants.{Opening, Call as AtCall}
use Rattle.trials.specs.declared.answer.Reply.{Reply}
use Rattle.trials.specs.declared.answer.Reply.TheVariants.{Told, Cores}
use Rattle.trials.specs.declared.call.Fit.{Fit}
use Rattle.trials.specs.declared.call.Fit.TheVariants.{First, Best, Worst}
use Rattle.trials.specs.declared.call.Choose.{Choose}
use Rattle.trials.specs.declared.call.Choose.TheVariants.{Earliest, Slack}
use Rattle.trials.specs.declared.call.Load.{Load}
use Rattle.trials.specs.declared.call.Call.{Call}
use Rattle.trials.specs.declared.call.Call.TheVariants.{Open, Announce, Tick, Ask}
use Rattle.trials.specs.declared.runs.Runs.{Runs}
use Rattle.trials.specs.Printing.{row_of}

-- ---- the words of the table, in those of a run

abbrev pub fitting : Fit → Fitting
fitting First = first_fit
fitting Best = best_fit
fitting Worst = worst_fit

-- A call of the table gets a reply or is refused.
abbrev pub Answer : Type 0
Answer = Result Reply Refused

abbrev pub said : Answer → RunAnswer
said (Ok (Told r)) = reply_of r
said (Ok (Cores list)) = named list.items
said (Err e) = by_number (row_of e).number (row_of e).task

-- The answer to an opening.
abbrev pub opening_answer : {Done : Type 0} → Result Done OpeningRefusal → Answer
opening_answer (Ok _) = Ok (Told Done)
opening_answer (Err e) = Err (Opening e)

-- The answer to an announcement.
abbrev pub announcing_answer : {Done : Type 0} → Result Done Refusal → Answer
announcing_answer (Ok _) = Ok (Told Done)
announcing_answer (Err e) = Err (AtCall e)

-- ---- what follows from a call: the run before it, the answer, the run after it

abbrev pub OpenedSo : Rule → Fit → Load → State → Answer → State → Type 0
OpenedSo choose fit load s answer s' = (told : Result (Unit {0}) OpeningRefusal) × (answer ≡ opening_answer told)
    × OpenedAs (fitting fit) choose load.cores load.unit load.frames (vec_items load.rates) s s' told

abbrev pub AnnouncedSo : Rule → ℕ → ℕ → State → Answer → State → Type 0
AnnouncedSo choose i d s answer s' = (told : Result (Unit {0}) Refusal) × (answer ≡ announcing_answer told)
    × Follows choose s (announce i d) (announced told) s' × AsFound told s s'

-- A tick that is granted tells the whole core list, each entry of which was 255.
abbrev pub TickedSo : Rule → ℕ → State → Answer → State → Type 0
TickedSo choose n s (Err e) s' = (Some (by_number (row_of e).number (row_of e).task) ≡ refusal (figures_of s) (tick n)) × (s' ≡ s)
TickedSo choose n s (Ok (Cores list)) s' = (length list.items ≡ n) × GrantedTick choose s (replicate n 255) s' list.items
TickedSo choose n s (Ok (Told _)) s' = ⊥

-- A core list has at most 20 entries.
abbrev pub Put : Rule → Call → State → Answer → State → Type 0
Put choose (Open fit _ load) s answer s' = OpenedSo choose fit load s answer s'
Put choose (Announce i d) s answer s' = AnnouncedSo choose i d s answer s'
Put choose (Tick entries) s answer s' = TickedSo choose (min entries 20) s answer s'
Put choose (Ask q) s answer s' = Follows choose s (ask (question_of q)) (said answer) s × (s' ≡ s)

-- ---- which run a call goes to

-- The choosing rule of the last opening: that of the call, if it opens a run.
abbrev pub last_after : Call → Choose → Choose
last_after (Open _ choose _) last = choose
last_after (Announce _ _) last = last
last_after (Tick _) last = last
last_after (Ask _) last = last

-- The call goes to the run of that rule, and the other run stays as it is.
abbrev pub Goes : Choose → Call → Runs → Answer → Runs → Type 0
Goes Earliest call m answer m' = Put earliest_deadline call m.earliest.state answer m'.earliest.state × (m'.slack ≡ m.slack)
Goes Slack call m answer m' = Put least_slack call m.slack.state answer m'.slack.state × (m'.earliest ≡ m.earliest)
