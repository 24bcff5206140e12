-- What a granted announcement leaves. Assumes nothing.
use Rattle.std.proofs.Common.{◌≡◌, ℕ, zero, suc, ◌+◌, ◌-◌, ◌*◌, ◌/◌, ◌^◌, ◌<◌, ◌≤◌, Bool, true, false, cond, not, eqb, ltb, leb, ◌≢◌, List, [], ◌∷◌, map, length, take, set, None, sum_by, sym, refl, ap, ◌∙◌, subst, inl, inr, mul-le-mul_right, mul_comm, div-lt_iff_lt-mul, mul-le-mul_left, arith, length-set, get_or-set_other, get_or-set_same}
use Rattle.std.specs.List.{AllByRecursion}
use Rattle.std.proofs.ByRecursion.{All-from_get_or, sum_by_le}
use Rattle.std.proofs.lemmas.List.{get_or-take, length-take}
use Rattle.std.proofs.lemmas.List.Sums.{sum_by-set}
use Rattle.std.proofs.lemmas.Bool.{cases_eq, cases_lt, leb-false, ltb-false, eqb-true, ne_eqb, and_right, and_parts, not-false}
use Rattle.levels.specs.Items.{item_at}
use Rattle.levels.specs.Running.{item_with_job}
use Rattle.ledger.specs.Calls.{announce}
use Rattle.ledger.specs.Answering.{refusal, awaited, announce_refusals}
use Rattle.ledger.specs.Scheduler.{begun}
use Rattle.ledger.proofs.Tables.{none_holds}
use Rattle.run.specs.declared.state.State.{State}
use Rattle.run.specs.declared.task.Task.{Task}
use Rattle.run.specs.declared.task.Phase.{Phase}
use Rattle.run.specs.declared.task.Phase.TheVariants.{Served, AtWork, Awaited}
use Rattle.run.specs.declared.task.Event.TheVariants.{Announce}
use Rattle.run.specs.Changing.{with_job}
use Rattle.run.specs.Keeping.{due, Kept}
use Rattle.run.specs.Phases.{is_awaited, next, next_in}
use Rattle.run.specs.Phases.{begun as begun_task}
use Rattle.run.specs.Runs.{figures_of, run_of}
use Rattle.run.specs.Views.{item_of, tasks_of, blank_task, task_at}
use Rattle.run.proofs.Starting.{has_unit}
use Rattle.run.proofs.Reading.{item_is_task, awaited_read}
use Rattle.run.proofs.Unsized.{KeptUnsized, kept_sized}

-- An announcement that no row refuses: the task is one of the sheet and awaited, and the deadline is later and within the run.
pub record MayBegin (s : State) (i d : ℕ) : Type 0 where
  pub goes_on : s.tick < s.unit * s.frames
  pub known : i < s.sheet
  pub marked : is_awaited (task_at s i).phase ≡ true
  pub now : s.tick ≡ s.unit * (task_at s i).share.deadline
  pub later : s.tick / s.unit < d
  pub within : d ≤ s.frames

pub may_begin : (s : State) (i d : ℕ) → KeptUnsized s → refusal (figures_of s) (announce i d) ≡ None → MayBegin s i d
may_begin s i d kept none =
    let (lasts, (known, (waits, (later, (in_run, _))))) = none_holds (announce_refusals (figures_of s) i d) none in
    let here : i < s.sheet = leb-false s.sheet i known in
    let is : awaited (figures_of s) i ≡ true = not-false (awaited (figures_of s) i) waits in
    let mark : is_awaited (task_at s i).phase ≡ true = awaited_read s kept.phased i here ∙ is in
    record {
      goes_on = leb-false (s.unit * s.frames) s.tick lasts;
      known = here;
      marked = mark;
      now = eqb-true s.tick (s.unit * (task_at s i).share.deadline) (and_parts _ _ (sym (kept.phased i here) ∙ mark)).1;
      later = leb-false d (s.tick / s.unit) later;
      within = ltb-false s.frames d in_run;
    }

-- ---- one task of the table is set

take_set : (n : ℕ) (ts : List Task) (i : ℕ) (t : Task) → i < n → take n (set ts i t) ≡ set (take n ts) i t
take_set zero ts i t h = absurd (omega arith)
take_set (suc n) [] i t h = refl
take_set (suc n) (x ∷ ts) zero t h = refl
take_set (suc n) (x ∷ ts) (suc i) t h = ap (λ l. x ∷ l) (take_set n ts i t (omega arith))

map_set : (ts : List Task) (i : ℕ) (t : Task) → map item_of (set ts i t) ≡ set (map item_of ts) i (item_of t)
map_set [] i t = refl
map_set (x ∷ ts) zero t = refl
map_set (x ∷ ts) (suc i) t = ap (λ l. item_of x ∷ l) (map_set ts i t)

pub items_set : (n : ℕ) (ts : List Task) (i : ℕ) (t : Task) → i < n → map item_of (take n (set ts i t)) ≡ set (map item_of (take n ts)) i (item_of t)
items_set n ts i t h = ap (map item_of) (take_set n ts i t h) ∙ map_set (take n ts) i t

marked_is : (p : Phase) → is_awaited p ≡ true → p ≡ Awaited
marked_is Served e = let z : ◌≡◌ {A = Bool} true false = sym e in cc
marked_is AtWork e = let z : ◌≡◌ {A = Bool} true false = sym e in cc
marked_is Awaited e = refl

pub not_marked : (b : Bool) → is_awaited (cond b AtWork Served) ≡ false
not_marked true = refl
not_marked false = refl

-- ---- a bound for the number of jobs

abbrev deadline_sum : State → ℕ
deadline_sum s = sum_by (λ (t : Task). t.share.deadline) (take s.count s.tasks)

deadline_sum_bound : (s : State) → KeptUnsized s → deadline_sum s ≤ 80 * 65535
deadline_sum_bound s kept =
    let n : length (take s.count s.tasks) ≤ 80 = omega (arith, length-take s.count s.tasks, s.few_tasks) in
    let each : AllByRecursion (λ (t : Task). t.share.deadline ≤ 65535) (take s.count s.tasks) = All-from_get_or (λ (t : Task). t.share.deadline ≤ 65535) (take s.count s.tasks) blank_task
    (λ i h. let below : i < s.count = omega (arith, length-take s.count s.tasks) in
    omega (arith, ap (λ (t : Task). t.share.deadline) (get_or-take s.count s.tasks i blank_task below), kept.within i below, s.few_frames)) in
    omega (arith, sum_by_le (λ (t : Task). t.share.deadline) 65535 (take s.count s.tasks) each, mul-le-mul_right 65535 n)

pub jobs_fit : (s : State) → KeptUnsized s → s.jobs + 1 < 2 ^ 64
jobs_fit s kept = omega (arith, kept.jobs, deadline_sum_bound s kept)

-- ---- the run after it

module _ (s : State) (i d : ℕ) (kept : KeptUnsized s) (may : MayBegin s i d) where
  abbrev t : Task
  t = task_at s i

  abbrev t' : Task
  t' = next t (Announce d)

  abbrev s' : State
  s' = with_job s (set s.tasks i t')

  below : i < s.count
  below = omega (arith, may.known, s.sheet_tasks)

  in_table : i < length s.tasks
  in_table = omega (arith, below, s.few_tasks, kept.table)

  begun_now : t' ≡ begun_task t d
  begun_now = ap (λ p. next_in p t (Announce d)) (marked_is t.phase may.marked)

  pub run_begun : run_of s' ≡ begun i d (run_of s)
  run_begun =
      let tasks : tasks_of s' ≡ set (tasks_of s) i (item_with_job d (item_at (tasks_of s) i)) =
      items_set s.count s.tasks i t' below
      ∙ ap (λ x. set (tasks_of s) i (item_of x)) begun_now
      ∙ ap (λ x. set (tasks_of s) i (item_with_job d x)) (sym (item_is_task s i below)) in
      λ p. record { state = record { tick = s.tick; tasks = tasks p; levels = (run_of s).state.levels }; jobs = suc s.jobs; preemptions = s.preemptions; before = (run_of s).before }

  a_unit : 0 < s.unit
  a_unit = has_unit s.unit s.frames s.tick may.goes_on

  tick_before : s.tick < s.unit * d
  tick_before = omega (arith, (div-lt_iff_lt-mul {k = s.unit} {x = s.tick} {y = d} a_unit).0 may.later, mul_comm d s.unit)

  deadline_later : t.share.deadline < d
  deadline_later = elim (cases_lt t.share.deadline d) [
    | inl less ↦ less
    | inr more ↦ absurd (omega (arith, tick_before, may.now, mul-le-mul_left {m = d} {n = t.share.deadline} s.unit more))
  ]

  at_here : task_at s' i ≡ begun_task t d
  at_here = get_or-set_same s.tasks i t' blank_task in_table ∙ begun_now

  at_other : (k : ℕ) → k ≢ i → task_at s' k ≡ task_at s k
  at_other k ne = get_or-set_other s.tasks i k t' blank_task ne

  here_phased : is_awaited (task_at s' i).phase ≡ due s (task_at s' i).share.deadline
  here_phased =
      ap (λ (x : Task). is_awaited x.phase) at_here
      ∙ not_marked (ltb 0 (t.share.rate * (d - t.share.deadline)))
      ∙ sym (and_right (not (leb (s.unit * s.frames) s.tick)) (eqb s.tick (s.unit * d)) (ne_eqb s.tick (s.unit * d) (λ e. omega (arith, tick_before))))
      ∙ ap (λ (x : Task). due s x.share.deadline) (sym at_here)

  pub kept_begun : KeptUnsized s'
  kept_begun = record {
    table = rw length-set kept.table;
    in_time = kept.in_time;
    phased = λ k h. elim (cases_eq k i) [
      | inl e ↦ subst (λ n. is_awaited (task_at s' n).phase ≡ due s (task_at s' n).share.deadline) (sym e) here_phased
      | inr ne ↦ ap (λ (x : Task). is_awaited x.phase) (at_other k ne) ∙ kept.phased k h ∙ ap (λ (x : Task). due s x.share.deadline) (sym (at_other k ne))
    ];
    within = λ k h. elim (cases_eq k i) [
      | inl e ↦ omega (arith, ap (λ n. (task_at s' n).share.deadline) e, ap (λ (x : Task). x.share.deadline) at_here, may.within)
      | inr ne ↦ omega (arith, ap (λ (x : Task). x.share.deadline) (at_other k ne), kept.within k h)
    ];
    jobs = omega (
      arith,
      kept.jobs,
      deadline_later,
      ap (λ l. sum_by (λ (x : Task). x.share.deadline) l) (take_set s.count s.tasks i t' below),
      sum_by-set (λ (x : Task). x.share.deadline) (take s.count s.tasks) i t' blank_task (omega (arith, length-take s.count s.tasks, below, in_table)),
      ap (λ (x : Task). x.share.deadline) (get_or-take s.count s.tasks i blank_task below),
      ap (λ (x : Task). x.share.deadline) begun_now,
    );
    preemptions = kept.preemptions;
    unfinished = kept.unfinished;
    recorded = kept.recorded;
  }

  -- and the levels stay as they are
  pub sized_begun : Kept s → Kept s'
  sized_begun all = kept_sized s' kept_begun all.few_levels all.few_servers
