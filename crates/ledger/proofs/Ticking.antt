-- A tick, in the scheduler and in the ledger: it is full, and they still agree. Assumes nothing.
use Rattle.std.proofs.Common.{◌≡◌, ℕ, suc, ◌*◌, ◌/◌, ◌%◌, ◌<◌, ◌≤◌, Bool, true, false, cond, not, ◌&&◌, eqb, ltb, List, [], ◌∷◌, length, Some, None, filter, Option, sym, refl, ap, ◌∙◌, subst, inl, inr, arith}
use Rattle.std.proofs.lemmas.List.{length_push, get_or_past}
use Rattle.std.proofs.lemmas.Bool.{cases_lt, and_parts}
use Rattle.choosing.specs.declared.share.Share.{Share}
use Rattle.choosing.specs.Balance.{nothing}
use Rattle.choosing.specs.Choosing.{Lawful}
use Rattle.levels.specs.Items.{no_item}
use Rattle.levels.specs.Sums.{bit, count}
use Rattle.levels.specs.Ticking.{always, spend_if}
use Rattle.levels.specs.Renewing.{renew_levels}
use Rattle.levels.specs.Running.{Machine, State, task, ready, step}
use Rattle.levels.specs.Reaching.{Goes}
use Rattle.levels.specs.Counting.{unfinished, preempted, ticks}
use Rattle.levels.proofs.Clients.{item_spent, length_spent}
use Rattle.levels.proofs.Preemptions.{length_spend, length_renew}
use Rattle.levels.proofs.States.{every_tick_is_full}
use Rattle.levels.proofs.Sums.{sum_ext}
use Rattle.cores.specs.Naming.{member}
use Rattle.ledger.specs.Openings.{Opening, rates, rate}
use Rattle.ledger.specs.Ledger.{Job, Ledger, last_job, left, FullTick, hold, post_tick}
use Rattle.ledger.specs.Scheduler.{setting, Run, running, Names, ticked}
use Rattle.ledger.proofs.Tasks.{all_members, member_kept, different_kept, count_kept, count_members}
use Rattle.ledger.proofs.Jobs.{held_if, last_hold, fine_hold}
use Rattle.ledger.proofs.Agreeing.{LastIs, Agrees, last_left, reached}

spend_nothing : (b : Bool) → spend_if b nothing ≡ nothing
spend_nothing true = refl
spend_nothing false = refl

pub spend_keeps : (b : Bool) (c : Share) → ((spend_if b c).rate ≡ c.rate) × ((spend_if b c).deadline ≡ c.deadline)
spend_keeps true c = (refl, refl)
spend_keeps false c = (refl, refl)

length_hold : (t : ℕ) (tasks : List ℕ) (jobs : List Job) → length (hold t tasks jobs) ≡ length jobs
length_hold t tasks [] = refl
length_hold t tasks (job ∷ jobs) = ap suc (length_hold t tasks jobs)

-- a task's last job after the tick, where b says whether the task runs
last_after : (o : Opening) (t : ℕ) (b : Bool) (c : Share) (x : Option Job) → (b ≡ true → 1 ≤ c.left) → LastIs o c x → LastIs o (spend_if b c) (held_if b t x)
last_after o t true c None h q = (omega (arith, q.0), q.1)
last_after o t false c None h q = q
last_after o t true c (Some job) h q = (q.0, omega (arith, q.1, h refl, length_push job.held t))
last_after o t false c (Some job) h q = q

module _ (o : Opening) (law : Lawful o.choose) (r : Run) (l : Ledger) (a : Agrees o r l) (w : Goes (setting o).machine r.state) (tasks : List ℕ)
    (names : Names (setting o) r tasks) where
  abbrev st : State
  st = r.state

  abbrev m : Machine
  m = (setting o).machine

  abbrev next : State
  next = step (always o.choose) m st

  abbrev runs_now : ℕ → Bool
  runs_now = running (setting o) r

  full : (count (length st.tasks) runs_now ≡ o.cores) × ((i : ℕ) → runs_now i ≡ true → 1 ≤ (task st i).left)
  full = every_tick_is_full m st (reached o law r l a) w (always o.choose) (λ k j. law)

  in_range : (i : ℕ) → runs_now i ≡ true → i < length st.tasks
  in_range i e = elim (cases_lt i (length st.tasks)) [ inl h ↦ h | inr h ↦ absurd (omega (arith, full.1 i e, ap (λ x. x.share.left) (get_or_past st.tasks i no_item h))) ]

  pub full_tick : FullTick o l tasks
  full_tick = record {
    as_cores = count_members (length st.tasks) runs_now tasks names.0 names.1 in_range ∙ full.0;
    different = names.0;
    with_left = all_members (λ i. (i < length (rates o)) × (1 ≤ left o l.jobs i)) tasks
        (λ i e. let run : runs_now i ≡ true = sym (names.1 i) ∙ e in
        (omega (arith, in_range i run, a.size), omega (arith, full.1 i run, last_left o (task st i) (last_job i l.jobs) (a.lasts i))));
  }

  -- ---- the tasks after the tick

  pub task_next : (k : ℕ) → task next k ≡ spend_if (runs_now k) (task st k)
  task_next k = elim (cases_lt k (length st.tasks)) [
    | inl h ↦ ap (λ x. x.share) (item_spent runs_now st.tasks k h)
    | inr h ↦ ap (λ x. x.share) (get_or_past next.tasks k no_item (omega (arith, length_spent runs_now st.tasks)))
        ∙ sym (ap (λ x. spend_if (runs_now k) x.share) (get_or_past st.tasks k no_item h) ∙ spend_nothing (runs_now k))
  ]

  lasts_next : (k : ℕ) → LastIs o (task next k) (last_job k (hold l.time tasks l.jobs))
  lasts_next k =
      let held : last_job k (hold l.time tasks l.jobs) ≡ held_if (runs_now k) l.time (last_job k l.jobs) =
      last_hold l.time tasks k l.jobs ∙ ap (λ b. held_if b l.time (last_job k l.jobs)) (names.1 k) in
      subst (LastIs o (task next k)) (sym held)
      (subst (λ c. LastIs o c (held_if (runs_now k) l.time (last_job k l.jobs))) (sym (task_next k))
      (last_after o l.time (runs_now k) (task st k) (last_job k l.jobs) (full.1 k) (a.lasts k)))

  rates_next : (k : ℕ) → (task next k).rate ≡ rate o k
  rates_next k = ap (λ c. c.rate) (task_next k) ∙ (spend_keeps (runs_now k) (task st k)).0 ∙ a.rate_is k

  levels_next : length next.levels ≡ length o.plan
  levels_next = length_spend (always o.choose) o.unit (ready m st) ∙ as_long (eqb (st.tick % o.unit) 0) ∙ a.levels
    where
      as_long : (b : Bool) → length (cond b (renew_levels o.unit o.frames (st.tick / o.unit) st.tasks st.levels) st.levels) ≡ length st.levels
      as_long true = length_renew o.unit o.frames (st.tick / o.unit) st.tasks st.levels
      as_long false = refl

  -- ---- the counts

  before_next : (i : ℕ) → member i (post_tick o l tasks).unfinished ≡ unfinished o.choose m st i
  before_next i =
      member_kept (λ k. ltb 0 (left o (hold l.time tasks l.jobs) k)) i tasks
      ∙ ap (λ b. b && ltb 0 (left o (hold l.time tasks l.jobs) i)) (names.1 i)
      ∙ ap (λ n. runs_now i && ltb 0 n) (last_left o (task next i) (last_job i (hold l.time tasks l.jobs)) (lasts_next i))

  preempted_now : length (filter (λ i. not (member i tasks)) l.unfinished) ≡ count (length st.tasks) (preempted o.choose m st r.before)
  preempted_now =
      count_kept (length st.tasks) (λ i. not (member i tasks)) l.unfinished a.different (λ i e. a.below i (sym (a.before i) ∙ e))
      ∙ sum_ext (length st.tasks) (λ i. bit (member i l.unfinished && not (member i tasks))) (λ i. bit (r.before i && not (runs_now i)))
      (λ i h. ap (λ b. bit (b && not (member i tasks))) (a.before i) ∙ ap (λ b. bit (r.before i && not b)) (names.1 i))

  -- a task that is named has a last job, which is not yet due
  not_due : (i : ℕ) (job : Job) → member i tasks ≡ true → last_job i l.jobs ≡ Some job → l.time < o.unit * job.deadline
  not_due i job e q =
      let run : runs_now i ≡ true = sym (names.1 i) ∙ e in
      let h : LastIs o (task st i) (Some job) = subst (LastIs o (task st i)) q (a.lasts i) in
      omega (arith, a.time, w.announced i (in_range i run), ap (λ n. o.unit * n) h.0)

  pub agrees_ticked : Agrees o (ticked (setting o) r) (post_tick o l tasks)
  agrees_ticked = record {
    counted = ticks a.counted w;
    time = ap suc a.time;
    jobs = length_hold l.time tasks l.jobs ∙ a.jobs;
    preemptions = omega (arith, a.preemptions, preempted_now);
    lasts = lasts_next;
    fine = fine_hold o l.time tasks l.jobs a.fine not_due;
    different = different_kept (λ k. ltb 0 (left o (hold l.time tasks l.jobs) k)) tasks names.0;
    before = before_next;
    below = λ i e. omega (arith, in_range i (and_parts _ _ e).0, length_spent runs_now st.tasks);
    size = length_spent runs_now st.tasks ∙ a.size;
    rate_is = rates_next;
    levels = levels_next;
  }
