-- What code owes of a call: that it is a step of the scheduler. Assumes nothing.
use Rattle.std.proofs.Common.{◌≡◌, ℕ, List, Some, None, Ok, Err, Option, Result, IsErr, refl, ap, ◌∙◌, subst, rules}
use Rattle.choosing.specs.Choosing.{Rule}
use Rattle.ledger.specs.Calls.{Question, Call, ask, Answer}
use Rattle.ledger.specs.Answering.{refusal, reply, Grants, Unless}
use Rattle.ledger.specs.Scheduler.{Setting, Run, Names, granted, unless, refused_or}
use Rattle.ledger.specs.Theorems.{CallConforms}
use Rattle.ledger.proofs.Conforming.{every_call_conforms}
use Rattle.run.specs.declared.refusal.Refusal.{Refusal}
use Rattle.run.specs.declared.state.State.{State}
use Rattle.run.specs.Asked.{asked_answer}
use Rattle.run.specs.Refusals.{told}
use Rattle.run.specs.Runs.{setting_of, run_of, figures_of, announced, refusal_told, ticked_as, Follows}

module _ (choose : Rule) (s : State) (call : Call) where
  abbrev here : Setting
  here = setting_of choose s

  abbrev now : Run
  now = run_of s

  pub refused_follows : (answer : Answer) → Some answer ≡ refusal (figures_of s) call → Follows choose s call answer s
  refused_follows answer is =
      let answers = subst (λ x. Unless x answer (Grants (figures_of s) (Names here now) call answer)) is refl in
      let next = ap (λ x. unless x now (granted here now call)) is in
      record { step = (answers, next); stays = refl; law = every_call_conforms here now call answer now (answers, next) }

  pub granted_follows : (answer : Answer) (s' : State) → None ≡ refusal (figures_of s) call → Grants (figures_of s) (Names here now) call answer
      → run_of s' ≡ granted here now call → setting_of choose s' ≡ here → Follows choose s call answer s'
  granted_follows answer s' none grants goes stays =
      let answers = subst (λ x. Unless x answer (Grants (figures_of s) (Names here now) call answer)) none grants in
      let next = goes ∙ ap (λ x. unless x now (granted here now call)) none in
      record { step = (answers, next); stays = stays; law = every_call_conforms here now call answer (run_of s') (answers, next) }

-- A call that its check refuses.
pub check_follows : (choose : Rule) (s : State) (call : Call) (r : Result (Unit {0}) Refusal) → IsErr r → refusal_told r ≡ refusal (figures_of s) call → Follows choose s call (announced r) s
check_follows choose s call (Ok _) err is = absurd (search rules)
check_follows choose s call (Err e) err is = refused_follows choose s call (told e) is

pub check_law : (choose : Rule) (s : State) (call : Call) (cores : ℕ) (list : List ℕ) (r : Result (Unit {0}) Refusal) → IsErr r → refusal_told r ≡ refusal (figures_of s) call
    → CallConforms (setting_of choose s) (run_of s) call (ticked_as cores list r) (run_of s)
check_law choose s call cores list (Ok _) err is = absurd (search rules)
check_law choose s call cores list (Err e) err is = (refused_follows choose s call (told e) is).law

-- A question is refused by its table, or answered by the figures.
pub asked_follows : (choose : Rule) (s : State) (q : Question) (answer : Answer) → answer ≡ asked_answer (figures_of s) q → Follows choose s (ask q) answer s
asked_follows choose s q answer is = go (refusal (figures_of s) (ask q)) refl is
  where
    go : (x : Option Answer) → x ≡ refusal (figures_of s) (ask q) → answer ≡ refused_or x (reply (figures_of s) q) → Follows choose s (ask q) answer s
    go None none e = granted_follows choose s (ask q) answer s none e refl refl
    go (Some x) some e = refused_follows choose s (ask q) answer (ap Some e ∙ some)
