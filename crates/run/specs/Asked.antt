-- What a question is answered; only contracts of private functions cite this.
use Rattle.std.specs.Prelude.{◌≡◌, ℕ, ◌<◌, ◌≤◌, Ok, Err, Result}
use Rattle.ledger.specs.Answering.{Figures, refusal, reply}
use Rattle.ledger.specs.Calls.{Question, ask, Answer}
use Rattle.ledger.specs.Scheduler.{refused_or}
use Rattle.run.specs.declared.refusal.Refusal.{Refusal}
use Rattle.run.specs.declared.refusal.Refusal.TheVariants.{UnknownTask}
use Rattle.run.specs.declared.state.State.{State}

abbrev pub asked_answer : Figures → Question → Answer
asked_answer n q = refused_or (refusal n (ask q)) (reply n q)

-- What is told of a task of the sheet; no task of the sheet has any other number.
abbrev pub OfSheet : {X : Type 0} → State → ℕ → (X → Type 0) → Result X Refusal → Type 0
OfSheet s i Tells (Ok x) = (i < s.sheet) × Tells x
OfSheet s i Tells (Err e) = (s.sheet ≤ i) × (e ≡ UnknownTask)
