-- A tick as a whole: made ready, run, and one tick on. Assumes nothing.
use Rattle.std.proofs.Common.{◌≡◌, ℕ, suc, ◌+◌, ◌*◌, ◌/◌, ◌%◌, ◌<◌, ◌≤◌, Bool, false, eqb, List, map, length, get_or, take, sym, refl, ap, ◌∙◌, subst, inl, inr, mul-le-mul, add-one, arith}
use Rattle.std.proofs.lemmas.Bool.{cases_lt, cond-true, eq-eqb}
use Rattle.std.specs.List.{AllByRecursion}
use Rattle.choosing.specs.Choosing.{Rule}
use Rattle.cores.specs.Naming.{Names}
use Rattle.levels.specs.Renewing.{renew_levels}
use Rattle.levels.specs.Running as theory
use Rattle.levels.specs.Running.{ready, runs, step}
use Rattle.levels.specs.Ticking.{always, named, spend_items, spend_levels}
use Rattle.levels.specs.Sums.{passing}
use Rattle.levels.specs.declared.server.Server.{Server}
use Rattle.run.specs.Changing.{with_all, with_levels, with_tables}
use Rattle.run.specs.Turns.{names, tick_if}
use Rattle.run.specs.Views.{flags, item_of, levels_of, machine, tasks_of, view, blank_task, task_at}
use Rattle.run.specs.declared.state.State.{State}
use Rattle.run.specs.declared.task.Task.{Task}
use Rattle.run.proofs.Levelled.{count_low}
use Rattle.run.proofs.Listing.{below_passing, names_passing}
use Rattle.run.proofs.Marking.{named_past}
use Rattle.run.proofs.Ticked.{items_ticked}

-- All levels have run, and the tasks that are marked go through the tick.
module _ (rule : Rule) (e s : State) (table : length e.tasks ≡ 80) (marks : List Bool) (kept : s ≡ with_levels e s.levels) (marked : flags marks ≡ names rule e) where
  none_past : (i : ℕ) → e.count ≤ i → names rule e i ≡ false
  none_past i h =
      let size : length (tasks_of e) ≡ e.count = count_low e table 0 refl in
      named_past (always rule) e.unit (tasks_of e) (levels_of e) i (omega (arith, size, h))

  module _ (ts : List Task) (long : length ts ≡ 80)
      (done : (i : ℕ) → i < s.count → get_or ts i blank_task ≡ tick_if (flags marks i) (task_at s i))
      (rest : (i : ℕ) → s.count ≤ i → get_or ts i blank_task ≡ task_at s i) where
    pub each_is : (i : ℕ) → get_or ts i blank_task ≡ tick_if (names rule e i) (task_at e i)
    each_is i =
        let same : s.count ≡ e.count = ap (λ x. x.count) kept in
        elim (cases_lt i s.count) [
          | inl l ↦ done i l ∙ ap (λ f. tick_if (f i) (task_at s i)) marked ∙ ap (λ x. tick_if (names rule e i) (task_at x i)) kept
          | inr h ↦ rest i h ∙ ap (λ x. task_at x i) kept ∙ sym (ap (λ b. tick_if b (task_at e i)) (none_past i (omega (arith, same, h))))
        ]

    pub tasks_are : map item_of (take s.count ts) ≡ spend_items (names rule e) (tasks_of e)
    tasks_are =
        ap (λ x. map item_of (take x.count ts)) kept ∙
        items_ticked (names rule e) e.count e.tasks ts (omega (arith, e.few_tasks, table)) (long ∙ sym table) each_is

  module _ (numbers : List ℕ) (listed : numbers ≡ passing 0 s.count (flags marks)) where
    pub listed_are : numbers ≡ passing 0 e.count (names rule e)
    listed_are = listed ∙ ap (λ x. passing 0 x.count (flags marks)) kept ∙ ap (passing 0 e.count) marked

    pub below_are : AllByRecursion (λ i. i < e.count) numbers
    below_are = subst (AllByRecursion (λ i. i < e.count)) (sym listed_are) (below_passing e.count (names rule e))

    pub names_are : Names (names rule e) numbers
    names_are = subst (Names (names rule e)) (sym listed_are) (names_passing e.count (names rule e) none_past)

-- Made ready, then run.
module _ (rule : Rule) (e m x : State)
    (made : m ≡ with_levels e m.levels) (ready_is : levels_of m ≡ ready (machine e) (view e))
    (kept : x ≡ with_tables m x.tasks x.levels) where
  pub runs_are : names rule m ≡ runs (always rule) (machine e) (view e)
  runs_are =
      ap (λ s. λ i. named (always rule) s.unit (tasks_of s) (levels_of m) i) made ∙
      ap (λ ls. λ i. named (always rule) e.unit (tasks_of e) ls i) ready_is

  tick_is : x.tick + 1 ≡ suc e.tick
  tick_is = ap (λ s. s.tick + 1) kept ∙ ap (λ s. s.tick + 1) made ∙ add-one e.tick

  pub view_is : tasks_of x ≡ spend_items (names rule m) (tasks_of m) → levels_of x ≡ spend_levels (always rule) m.unit (levels_of m) →
      ◌≡◌ {A = theory.State} (record { tick = x.tick + 1; tasks = tasks_of x; levels = levels_of x }) (step (always rule) (machine e) (view e))
  view_is tasks levels =
      let tasks_are : tasks_of x ≡ spend_items (runs (always rule) (machine e) (view e)) (tasks_of e) =
      tasks ∙ ap (λ s. spend_items (names rule m) (tasks_of s)) made ∙ ap (λ f. spend_items f (tasks_of e)) runs_are in
      let levels_are : levels_of x ≡ spend_levels (always rule) e.unit (ready (machine e) (view e)) =
      levels ∙ ap (λ s. spend_levels (always rule) s.unit (levels_of m)) made ∙ ap (spend_levels (always rule) e.unit) ready_is in
      λ t. record { tick = tick_is t; tasks = tasks_are t; levels = levels_are t }

  pub machine_is : machine x ≡ machine e
  machine_is = ap machine kept ∙ ap machine made

  pub tick_same : x.tick ≡ e.tick
  tick_same = ap (λ s. s.tick) kept ∙ ap (λ s. s.tick) made

  pub kept_is : with_all x (x.tick + 1) x.tasks x.levels ≡ with_all e (suc e.tick) x.tasks x.levels
  kept_is =
      ap (λ s. with_all s (s.tick + 1) x.tasks x.levels) kept ∙
      ap (λ s. with_all s (s.tick + 1) x.tasks x.levels) made ∙
      ap (λ n. with_all e n x.tasks x.levels) (add-one e.tick)

  pub each_ticked : ((i : ℕ) → task_at x i ≡ tick_if (names rule m i) (task_at m i)) → (i : ℕ) → task_at x i ≡ tick_if (runs (always rule) (machine e) (view e) i) (task_at e i)
  each_ticked each i = each i ∙ ap (λ f. tick_if (f i) (task_at m i)) runs_are ∙ ap (λ s. tick_if (runs (always rule) (machine e) (view e) i) (task_at s i)) made

  pub listed_runs : (numbers : List ℕ) → numbers ≡ passing 0 m.count (names rule m) → numbers ≡ passing 0 e.count (runs (always rule) (machine e) (view e))
  listed_runs numbers listed = listed ∙ ap (λ s. passing 0 s.count (names rule m)) made ∙ ap (passing 0 e.count) runs_are

-- ---- frames and ticks

-- The last tick fits its width.
pub short_run : (s : State) → s.unit * s.frames ≤ 1000 * 65535
short_run s = mul-le-mul {n₁ = s.unit} {m₁ = s.frames} {n₂ = 1000} {m₂ = 65535} s.small_unit s.few_frames

-- At a frame start the levels are ready when they are renewed.
pub ready_renewed : (e : State) (f : ℕ) (ls : List (List Server)) → e.tick % e.unit ≡ 0 → f ≡ e.tick / e.unit → ls ≡ renew_levels e.unit e.frames f (tasks_of e) (levels_of e) → ls ≡ ready (machine e) (view e)
ready_renewed e f ls start frame levels =
    levels ∙
    ap (λ n. renew_levels e.unit e.frames n (tasks_of e) (levels_of e)) frame ∙
    sym (cond-true (eqb (e.tick % e.unit) 0) (renew_levels e.unit e.frames (e.tick / e.unit) (tasks_of e) (levels_of e)) (levels_of e) (eq-eqb (e.tick % e.unit) 0 start))
