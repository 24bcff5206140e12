-- A record never opened answers as a run that is over. Assumes nothing.
use Rattle.std.proofs.Common.{◌≡◌, Bool, true, false, cond, leb, Some, None, Option, sym, refl, ◌∙◌, arith}
use Rattle.std.proofs.lemmas.Bool.{le-leb, true≢false}
use Rattle.choosing.specs.Choosing.{Rule as Choosing}
use Rattle.ledger.specs.Calls.{Question, present_tick, left_of, deadline_of, is_awaited, reductions_made, jobs_begun, preemptions_made, announce, tick, ask, Answer, refused, number, truth}
use Rattle.ledger.specs.Answering.{refusal, reply, Unless}
use Rattle.ledger.specs.Scheduler.{run_figures, unless, unset, never_opened, blank_reply}
use Rattle.ledger.specs.Theorems.{ABlankRunIsOver}

-- What it takes to be blank, where the refusal of a call is known.
abbrev Blank : Option Answer → Answer → Answer → Type 0
Blank x reply blank =
    ((answer : Answer) → Unless x answer (answer ≡ reply) → answer ≡ blank) × Unless x blank (blank ≡ reply) × (unless x never_opened never_opened ≡ never_opened)

-- a question about a task, as no number is known
of_task : (reply : Answer) (b : Bool) → b ≡ true → Blank (cond b (Some (refused 12)) None) reply (refused 12)
of_task reply true e = (λ answer h. h, refl, refl)
of_task reply false e = absurd (true≢false (sym e))

-- a question
asked : (choose : Choosing) (q : Question) → Blank (refusal (run_figures (unset choose) never_opened) (ask q)) (reply (run_figures (unset choose) never_opened) q) (blank_reply q)
asked choose present_tick = (λ answer e. e, refl, refl)
asked choose (left_of i) = of_task (number 0) (leb 0 i) (le-leb 0 i (omega arith))
asked choose (deadline_of i) = of_task (number 0) (leb 0 i) (le-leb 0 i (omega arith))
asked choose (is_awaited i) = of_task (truth false) (leb 0 i) (le-leb 0 i (omega arith))
asked choose reductions_made = (λ answer e. e, refl, refl)
asked choose jobs_begun = (λ answer e. e, refl, refl)
asked choose preemptions_made = (λ answer e. e, refl, refl)

pub a_blank_run_is_over : ABlankRunIsOver
a_blank_run_is_over choose (announce i d) answer next = (λ step. step, (refl, refl))
a_blank_run_is_over choose (tick width) answer next = (λ step. step, (refl, refl))
a_blank_run_is_over choose (ask q) answer next =
    let (only, is, stays) = asked choose q in
    (λ step. (only answer step.0, step.1 ∙ stays), (is, sym stays))
