-- The start of a frame marks the tasks that are awaited. Assumes nothing.
use Rattle.std.proofs.Common.{◌≡◌, ℕ, suc, ◌*◌, ◌/◌, ◌%◌, ◌<◌, ◌≤◌, Bool, true, false, cond, not, ◌&&◌, eqb, leb, List, sym, refl, ap, ◌∙◌, inl, inr, mul-le-mul_left, zero-mul, arith}
use Rattle.std.proofs.lemmas.Bool.{cases_lt, cases_order, eq-eqb, ne_eqb, le-leb, lt-leb, and_right}
use Rattle.run.specs.declared.state.State.{State}
use Rattle.run.specs.declared.task.Event.TheVariants.{FrameStart}
use Rattle.run.specs.declared.task.Phase.{Phase}
use Rattle.run.specs.declared.task.Phase.TheVariants.{Served, AtWork, Awaited}
use Rattle.run.specs.declared.task.Task.{Task}
use Rattle.run.specs.Changing.{Changed, with_tasks}
use Rattle.run.specs.Keeping.{due, Phased, Unmarked, SameItems}
use Rattle.run.specs.Phases.{is_awaited, next, next_in, with}
use Rattle.run.specs.Views.{blank_task, item_of, task_at}

-- ---- one task

started_item : (b : Bool) (t : Task) → item_of (cond b (with t t.share.left t.share.deadline Awaited) t) ≡ item_of t
started_item true t = refl
started_item false t = refl

start_item_in : (p : Phase) (t : Task) (f : ℕ) → item_of (next_in p t (FrameStart f)) ≡ item_of t
start_item_in Served t f = started_item (eqb t.share.deadline f) t
start_item_in AtWork t f = started_item (eqb t.share.deadline f) t
start_item_in Awaited t f = refl

start_item : (t : Task) (f : ℕ) → item_of (next t (FrameStart f)) ≡ item_of t
start_item t f = start_item_in t.phase t f

started_mark : (b : Bool) (t : Task) → is_awaited t.phase ≡ false → is_awaited (cond b (with t t.share.left t.share.deadline Awaited) t).phase ≡ b
started_mark true t e = refl
started_mark false t e = e

start_mark_in : (p : Phase) (t : Task) (f : ℕ) → is_awaited p ≡ false → is_awaited t.phase ≡ false → is_awaited (next_in p t (FrameStart f)).phase ≡ eqb t.share.deadline f
start_mark_in Served t f e g = started_mark (eqb t.share.deadline f) t g
start_mark_in AtWork t f e g = started_mark (eqb t.share.deadline f) t g
start_mark_in Awaited t f e g = let z : ◌≡◌ {A = Bool} true false = e in cc

start_mark : (t : Task) (f : ℕ) → is_awaited t.phase ≡ false → is_awaited (next t (FrameStart f)).phase ≡ eqb t.share.deadline f
start_mark t f e = start_mark_in t.phase t f e e

-- ---- which deadline is now

-- At the start of frame tick / unit the deadline is that frame.
now_is_frame : (unit tick d : ℕ) → 0 < unit → tick % unit ≡ 0 → eqb d (tick / unit) ≡ eqb tick (unit * d)
now_is_frame unit tick d some start = elim (cases_order d (tick / unit)) [
  | inl e ↦ eq-eqb d (tick / unit) e ∙ sym (eq-eqb tick (unit * d) (omega (arith, ap (λ x. unit * x) e)))
  | inr (inl less) ↦ ne_eqb d (tick / unit) (λ e. omega arith) ∙ sym (ne_eqb tick (unit * d) (λ e. omega (arith, mul-le-mul_left {m = suc d} {n = tick / unit} unit less)))
  | inr (inr more) ↦ ne_eqb d (tick / unit) (λ e. omega arith) ∙ sym (ne_eqb tick (unit * d) (λ e. omega (arith, mul-le-mul_left {m = suc (tick / unit)} {n = d} unit more)))
]

-- In the midst of a frame no deadline is now.
not_now : (unit tick d : ℕ) → 0 < unit → (tick % unit ≡ 0 → ⊥) → eqb tick (unit * d) ≡ false
not_now unit tick d some midst = ne_eqb tick (unit * d) (λ e. midst (elim (cases_order d (tick / unit)) [
  | inl same ↦ omega (arith, ap (λ x. unit * x) same)
  | inr (inl less) ↦ absurd (omega (arith, mul-le-mul_left {m = suc d} {n = tick / unit} unit less))
  | inr (inr more) ↦ absurd (omega (arith, mul-le-mul_left {m = suc (tick / unit)} {n = d} unit more))
]))

-- ---- all tasks

module _ (s : State) (unmarked : Unmarked s) where
  -- nothing is marked where the run is over, or in the midst of a frame
  pub over_phased : s.unit * s.frames ≤ s.tick → Phased s
  over_phased over i h = unmarked i h ∙ ap (λ b. not b && eqb s.tick (s.unit * (task_at s i).share.deadline)) (sym (le-leb (s.unit * s.frames) s.tick over))

  pub midst_phased : 0 < s.unit → (s.tick % s.unit ≡ 0 → ⊥) → Phased s
  midst_phased some midst i h =
      unmarked i h ∙ sym (and_right (not (leb (s.unit * s.frames) s.tick)) _ (not_now s.unit s.tick (task_at s i).share.deadline some midst))

  module _ (tasks : List Task) (done : Changed blank_task (λ _ t. next t (FrameStart (s.tick / s.unit))) s.tasks tasks s.sheet) where
    pub start_items : SameItems s (with_tasks s tasks)
    start_items i = elim (cases_lt i s.sheet) [
      | inl h ↦ ap item_of (done.done i h) ∙ start_item (task_at s i) (s.tick / s.unit)
      | inr h ↦ ap item_of (done.rest i h)
    ]

    pub start_phased : s.tick < s.unit * s.frames → 0 < s.unit → s.tick % s.unit ≡ 0 → Phased (with_tasks s tasks)
    start_phased lasts some start i h =
        let d = (task_at s i).share.deadline in
        ap (λ (t : Task). is_awaited t.phase) (done.done i h)
        ∙ start_mark (task_at s i) (s.tick / s.unit) (unmarked i h)
        ∙ now_is_frame s.unit s.tick d some start
        ∙ ap (λ b. not b && eqb s.tick (s.unit * d)) (sym (lt-leb (s.unit * s.frames) s.tick lasts))
        ∙ ap (λ x. due s x.share.deadline) (sym (start_items i))

-- A run that is not over has a unit.
pub has_unit : (unit frames tick : ℕ) → tick < unit * frames → 0 < unit
has_unit unit frames tick lasts = elim (cases_lt 0 unit) [
  | inl some ↦ some
  | inr none ↦ let zero_unit : unit ≡ 0 = omega arith in absurd (omega (arith, ap (λ u. u * frames) zero_unit, zero-mul frames))
]
