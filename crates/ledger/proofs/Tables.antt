-- The tables of refusals: what holds where no row does, and that a refusal or a question posts nothing. Assumes nothing.
use Rattle.std.proofs.Common.{◌≡◌, ℕ, Bool, true, false, cond, [], ◌∷◌, Some, None, refl, subst, arith}
use Rattle.std.specs.List.{AllByRecursion}
use Rattle.ledger.specs.Openings.{Opening}
use Rattle.ledger.specs.Calls.{Question, present_tick, left_of, deadline_of, is_awaited, reductions_made, jobs_begun, preemptions_made, Call, announce, tick, ask, Answer}
use Rattle.ledger.specs.Answering.{Figures, Table, first, refusals, refusal, reply}
use Rattle.ledger.specs.Ledger.{Ledger, posted}

-- where there is no refusal, each test is false
pub none_holds : (rows : Table) → first rows ≡ None → AllByRecursion (λ row. row.0 ≡ false) rows
none_holds [] e = tt
none_holds (row ∷ rows) e = go row.0 refl e (none_holds rows)
  where
    go : (b : Bool) → row.0 ≡ b → cond b (Some row.1) (first rows) ≡ None → (first rows ≡ None → AllByRecursion (λ row. row.0 ≡ false) rows) → (row.0 ≡ false) × AllByRecursion (λ row. row.0 ≡ false) rows
    go true t e ih = let z : ◌≡◌ {A = ℕ} 0 1 = cc in absurd (omega arith)
    go false t e ih = (t, ih e)

-- what holds of all rows holds of the refusal
first_some : (P : Answer → Type 0) (rows : Table) → AllByRecursion (λ row. P row.1) rows → (x : Answer) → first rows ≡ Some x → P x
first_some P [] h x e = let z : ◌≡◌ {A = ℕ} 0 1 = cc in absurd (omega arith)
first_some P (row ∷ rows) h x e = go row.0 e (first_some P rows h.1 x)
  where
    go : (b : Bool) → cond b (Some row.1) (first rows) ≡ Some x → (first rows ≡ Some x → P x) → P x
    go true e ih = let same : row.1 ≡ x = cc in subst P same h.0
    go false e ih = ih e

-- the rows of every table post nothing
rows_post_nothing : (o : Opening) (n : Figures) (l : Ledger) (call c : Call) → AllByRecursion (λ row. posted o l c row.1 ≡ l) (refusals n call)
rows_post_nothing o n l (announce i d) c = (refl, (refl, (refl, (refl, (refl, tt)))))
rows_post_nothing o n l (tick width) c = (refl, (refl, (refl, tt)))
rows_post_nothing o n l (ask present_tick) c = tt
rows_post_nothing o n l (ask (left_of i)) c = (refl, tt)
rows_post_nothing o n l (ask (deadline_of i)) c = (refl, tt)
rows_post_nothing o n l (ask (is_awaited i)) c = (refl, tt)
rows_post_nothing o n l (ask reductions_made) c = tt
rows_post_nothing o n l (ask jobs_begun) c = tt
rows_post_nothing o n l (ask preemptions_made) c = tt

pub refused_same : (o : Opening) (n : Figures) (l : Ledger) (call : Call) (x : Answer) → refusal n call ≡ Some x → posted o l call x ≡ l
refused_same o n l call x e = first_some (λ a. posted o l call a ≡ l) (refusals n call) (rows_post_nothing o n l call call) x e

pub asked_same : (o : Opening) (n : Figures) (l : Ledger) (q : Question) → posted o l (ask q) (reply n q) ≡ l
asked_same o n l present_tick = refl
asked_same o n l (left_of i) = refl
asked_same o n l (deadline_of i) = refl
asked_same o n l (is_awaited i) = refl
asked_same o n l reductions_made = refl
asked_same o n l jobs_begun = refl
asked_same o n l preemptions_made = refl
