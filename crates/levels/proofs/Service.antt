-- What a task has run and what is left of its job make up its job. Assumes nothing.
use Rattle.std.proofs.Common.{◌≡◌, ℕ, ◌+◌, ◌-◌, ◌*◌, ◌<◌, ◌≤◌, Bool, true, false, length, sym, refl, ap, subst, inl, inr, arith, length-set}
use Rattle.std.proofs.lemmas.List.{get_or-set_same, get_or-set_other}
use Rattle.std.proofs.lemmas.Bool.{eq-eqb, ne_eqb, cases_eq}
use Rattle.choosing.specs.declared.share.Share.{Share}
use Rattle.levels.specs.declared.item.Item.{Item}
use Rattle.levels.specs.Sums.{bit}
use Rattle.levels.specs.Items.{no_item, item_at}
use Rattle.levels.specs.Ticking.{spend_if}
use Rattle.levels.specs.Running.{Machine, State, task, item_with_job, announce, runs}
use Rattle.levels.specs.Reaching.{Reached}
use Rattle.levels.specs.Serving.{put, Served, opens, announces, ticks}
use Rattle.levels.specs.Theorems.{EveryJobIsServed}
use Rattle.levels.proofs.Clients.{length_spent, item_spent}
use Rattle.levels.proofs.States.{every_tick_is_full, no_deadline_is_missed}
use Rattle.levels.specs.Reaching

forget : {m : Machine} {st : State} {begun held : ℕ → ℕ} → Served m st begun held → Reached m st
forget (opens o) = Reaching.opens o
forget (announces c i d a) = Reaching.announces (forget c) i d a
forget (ticks c w rules law) = Reaching.ticks (forget c) w rules law

put_same : (i v : ℕ) (g : ℕ → ℕ) → put i v g i ≡ v
put_same i v g = rw (eq-eqb i i refl) refl

put_other : (i v k : ℕ) (g : ℕ → ℕ) → (k ≡ i → ⊥) → put i v g k ≡ g k
put_other i v k g n = rw (ne_eqb k i n) refl

-- The job of a task, with what it has run.
abbrev Whole : Share → ℕ → ℕ → Type 0
Whole c begun held = held + c.left ≡ c.rate * (c.deadline - begun)

whole_spent : (b : Bool) (c : Share) (begun held : ℕ) → (b ≡ true → 1 ≤ c.left) → Whole c begun held → Whole (spend_if b c) begun (held + bit b)
whole_spent true c begun held h e = omega (arith, h refl)
whole_spent false c begun held h e = omega arith

whole : (m : Machine) {st : State} {begun held : ℕ → ℕ} → Served m st begun held → (k : ℕ) → k < length st.tasks
    → Whole (task st k) (begun k) (held k)
whole m (opens {st} o) k l = omega (arith, (o.unbegun_tasks k l).0, ap (λ d. (task st k).rate * (d - 0)) (o.unbegun_tasks k l).1, none (task st k).rate)
  where
    none : (n : ℕ) → n * (0 - 0) ≡ 0
    none n = omega arith
whole m (announces {st} {begun} {held} c i d a) k h =
    let l : k < length st.tasks = rw length-set at h in
    elim (cases_eq k i) [ inl e ↦ same e | inr n ↦ other n (whole m c k l) ]
  where
    x : Item
    x = item_at st.tasks i

    same : k ≡ i → Whole (task (announce i d st) k) (put i (task st i).deadline begun k) (put i 0 held k)
    same e =
        let new : Whole (item_with_job d x).share (put i (task st i).deadline begun i) (put i 0 held i) = rw (eq-eqb i i refl) (omega arith) in
        let here : Whole (task (announce i d st) i) (put i (task st i).deadline begun i) (put i 0 held i) =
        subst (λ y. Whole y.share (put i (task st i).deadline begun i) (put i 0 held i)) (sym (get_or-set_same st.tasks i (item_with_job d x) no_item a.one)) new in
        subst (λ n. Whole (task (announce i d st) n) (put i (task st i).deadline begun n) (put i 0 held n)) (sym e) here

    other : (k ≡ i → ⊥) → Whole (task st k) (begun k) (held k)
        → Whole (task (announce i d st) k) (put i (task st i).deadline begun k) (put i 0 held k)
    other n w = subst (λ y. Whole y.share (put i (task st i).deadline begun k) (put i 0 held k)) (sym (get_or-set_other st.tasks i k (item_with_job d x) no_item n)) (rw (ne_eqb k i n) w)
whole m (ticks {st} {begun} {held} c w rules law) k h =
    let l : k < length st.tasks = rw length_spent at h in
    subst (λ y. Whole y.share (begun k) (held k + bit (runs rules m st k))) (sym (item_spent (runs rules m st) st.tasks k l))
    (whole_spent (runs rules m st k) (task st k) (begun k) (held k) ((every_tick_is_full m st (forget c) w rules law).1 k) (whole m c k l))

pub every_job_is_served : EveryJobIsServed
every_job_is_served m st begun held s i l =
    (whole m s i l, λ e. omega (arith, whole m s i l, no_deadline_is_missed m st (forget s) i l e))
