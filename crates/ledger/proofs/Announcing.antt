-- A job begins, in the scheduler and in the ledger, and they still agree. Assumes nothing.
use Rattle.std.proofs.Common.{◌≡◌, ℕ, ◌-◌, ◌*◌, ◌<◌, Bool, true, false, cond, eqb, [], ◌∷◌, ◌++◌, length, Some, sym, refl, ap, ◌∙◌, subst, inl, inr, arith}
use Rattle.std.proofs.lemmas.List.{length_push, length-set, get_or-set_same, get_or-set_other}
use Rattle.std.proofs.lemmas.Bool.{eqb-true, eqb-false, cases_eq}
use Rattle.choosing.specs.Choosing.{Lawful}
use Rattle.levels.specs.declared.item.Item.{Item}
use Rattle.levels.specs.Items.{no_item, item_at}
use Rattle.levels.specs.Running.{State, task, item_with_job}
use Rattle.levels.specs.Running.{announce as begin_job}
use Rattle.levels.specs.Reaching.{Announces}
use Rattle.levels.specs.Counting.{announces}
use Rattle.levels.proofs.States.{no_deadline_is_missed}
use Rattle.ledger.specs.Openings.{Opening, rate}
use Rattle.ledger.specs.Ledger.{Job, Ledger, last_job}
use Rattle.ledger.specs.Scheduler.{setting, Run, begun}
use Rattle.ledger.proofs.Jobs.{last_push, Complete, fine_push}
use Rattle.ledger.proofs.Agreeing.{LastIs, Agrees, reached}

-- the tasks after task i has begun a job

module _ (st : State) (i d : ℕ) where
  abbrev now : Item
  now = item_with_job d (item_at st.tasks i)

  task_begun : i < length st.tasks → task (begin_job i d st) i ≡ now.share
  task_begun b = ap (λ x. x.share) (get_or-set_same st.tasks i now no_item b)

  pub task_other : (k : ℕ) → (k ≡ i → ⊥) → task (begin_job i d st) k ≡ task st k
  task_other k n = ap (λ x. x.share) (get_or-set_other st.tasks i k now no_item n)

module _ (o : Opening) (law : Lawful o.choose) (r : Run) (l : Ledger) (a : Agrees o r l) (i d f : ℕ) (w : Announces (setting o).machine r.state i d)
    (now_is : f ≡ (task r.state i).deadline) where
  abbrev st : State
  st = r.state

  abbrev new : Job
  new = record { task = i; release = f; deadline = d; held = [] }

  abbrev with_new : Ledger
  with_new = record { time = l.time; jobs = l.jobs ++ new ∷ []; unfinished = l.unfinished; preemptions = l.preemptions }

  same : task (begin_job i d st) i ≡ (now st i d).share
  same = task_begun st i d w.one

  pub begun_is : ((task (begin_job i d st) i).deadline ≡ d) × ((task (begin_job i d st) i).left ≡ rate o i * (d - f))
  begun_is = (ap (λ c. c.deadline) same, ap (λ c. c.left) same ∙ ap (λ q. q * (d - (task st i).deadline)) (a.rate_is i) ∙ ap (λ q. rate o i * (d - q)) (sym now_is))

  last_new : LastIs o (task (begin_job i d st) i) (Some new)
  last_new = (sym begun_is.0, omega (arith, begun_is.1))

  lasts_new : (k : ℕ) → LastIs o (task (begin_job i d st) k) (last_job k (l.jobs ++ new ∷ []))
  lasts_new k = subst (LastIs o (task (begin_job i d st) k)) (sym (last_push k l.jobs new)) (go (eqb i k) refl)
    where
      go : (b : Bool) → eqb i k ≡ b → LastIs o (task (begin_job i d st) k) (cond b (Some new) (last_job k l.jobs))
      go true e = subst (λ q. LastIs o (task (begin_job i d st) q) (Some new)) (eqb-true i k e) last_new
      go false e = subst (λ c. LastIs o c (last_job k l.jobs)) (sym (task_other st i d k (λ g. eqb-false i k e (sym g)))) (a.lasts k)

  -- the job before it is complete
  complete : (job : Job) → last_job i l.jobs ≡ Some job → Complete o l.time job
  complete job e =
      let h : LastIs o (task st i) (Some job) = subst (LastIs o (task st i)) e (a.lasts i) in (
        omega (arith, a.time, w.due, ap (λ n. o.unit * n) h.0),
        omega (arith, h.1, no_deadline_is_missed (setting o).machine st (reached o law r l a) i w.one w.due),
      )

  rates_new : (k : ℕ) → (task (begin_job i d st) k).rate ≡ rate o k
  rates_new k = elim (cases_eq k i) [
    | inl e ↦ ap (λ q. (task (begin_job i d st) q).rate) e ∙ ap (λ c. c.rate) same ∙ a.rate_is i ∙ ap (rate o) (sym e)
    | inr n ↦ ap (λ c. c.rate) (task_other st i d k n) ∙ a.rate_is k
  ]

  pub agrees_begun : Agrees o (begun i d r) with_new
  agrees_begun = record {
    counted = announces a.counted i d w;
    time = a.time;
    jobs = length_push l.jobs new ∙ omega (arith, a.jobs);
    preemptions = a.preemptions;
    lasts = lasts_new;
    fine = fine_push o l.time l.jobs new a.fine (record { began = omega (arith, a.time, w.due, ap (λ n. o.unit * n) now_is); window = tt; past = tt }) complete;
    different = a.different;
    before = a.before;
    below = λ k e. omega (arith, a.below k e, length-set st.tasks i (now st i d));
    size = length-set st.tasks i (now st i d) ∙ a.size;
    rate_is = rates_new;
    levels = a.levels;
  }
