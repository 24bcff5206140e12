-- A granted tick, from the levels to the start of the next frame, is a tick of the scheduler. Assumes nothing.
use Rattle.std.proofs.Common.{◌≡◌, ℕ, suc, ◌+◌, ◌*◌, ◌^◌, ◌<◌, ◌≤◌, Bool, true, false, not, ◌&&◌, ltb, List, map, length, get_or, take, Some, None, sum_by, sum, filter, Option, sym, refl, ap, ◌∙◌, subst, ap₂, mul-le-mul, arith}
use Rattle.std.specs.List.{AllByRecursion}
use Rattle.std.proofs.ByRecursion.{all_kept_by}
use Rattle.std.proofs.lemmas.List.{length-map, length-take-le}
use Rattle.std.proofs.lemmas.List.Sums.{sum-map}
use Rattle.std.proofs.lemmas.Bool.{eq-eqb, eqb-true, leb-false, ltb-false}
use Rattle.choosing.specs.Choosing.{Rule}
use Rattle.cores.specs.declared.place.Cores.{Cores}
use Rattle.cores.specs.Counting.{preemptions}
use Rattle.cores.specs.Naming.{member, Different, Names}
use Rattle.cores.specs.Placing.{is_task, limited, placed, written}
use Rattle.cores.specs.Laws.{Recorded, Lawful, Listed}
use Rattle.cores.proofs.Members.{all_member}
use Rattle.levels.specs.Counting.{unfinished, preempted}
use Rattle.levels.specs.Running.{runs, step, task}
use Rattle.levels.specs.Sums.{count}
use Rattle.levels.specs.Ticking.{always}
use Rattle.ledger.specs.Answering.{refusal, awaited, lowest_awaited, tick_refusals}
use Rattle.ledger.specs.Calls.{tick}
use Rattle.ledger.specs.Scheduler.{ticked}
use Rattle.ledger.proofs.Tables.{none_holds}
use Rattle.ledger.proofs.Tasks.{least_none, member_kept, different_kept, count_kept}
use Rattle.run.specs.declared.state.State.{State}
use Rattle.run.specs.declared.task.Event.TheVariants.{Tick}
use Rattle.run.specs.declared.task.Phase.{Phase}
use Rattle.run.specs.declared.task.Phase.TheVariants.{Served, AtWork, Awaited}
use Rattle.run.specs.declared.task.Task.{Task}
use Rattle.run.specs.Changing.{remade}
use Rattle.run.specs.Counts.{has_left}
use Rattle.run.specs.Keeping.{Phased, Unmarked, Kept}
use Rattle.run.specs.Phases.{is_awaited, next_in}
use Rattle.run.specs.Runs.{setting_of, run_of, figures_of, named_by, GrantedTick}
use Rattle.run.specs.Turns.{tick_if, GoneOn}
use Rattle.run.specs.Views.{item_of, tasks_of, levels_of, view, machine, task_at}
use Rattle.run.proofs.Begun.{not_marked}
use Rattle.run.proofs.Distinct.{distinct_from, distinct_to, same_by}
use Rattle.run.proofs.Reading.{item_is_task, awaited_read}
use Rattle.run.proofs.Sizes.{level_count, server_count, sizes, sizes_stepped}
use Rattle.run.proofs.Unsized.{KeptUnsized, kept_sized}

-- ---- a granted tick

module _ (s : State) (kept : KeptUnsized s) (width : ℕ) (granted : None ≡ refusal (figures_of s) (tick width)) where
  pub goes_on : s.tick < s.unit * s.frames
  goes_on = leb-false (s.unit * s.frames) s.tick (none_holds (tick_refusals (figures_of s) width) (sym granted)).0

  unawaited : (i : ℕ) → i < s.sheet → is_awaited (task_at s i).phase ≡ false
  unawaited i h =
      let none = (none_holds (tick_refusals (figures_of s) width) (sym granted)).1.1.0 in
      awaited_read s kept.phased i h ∙ least_none s.sheet (awaited (figures_of s)) (ltb-false (lowest_awaited (figures_of s)) s.sheet none) i h

  short : s.unit * s.frames ≤ 1000 * 65535
  short = mul-le-mul {n₁ = s.unit} {m₁ = s.frames} {n₂ = 1000} {m₂ = 65535} s.small_unit s.few_frames

  -- ---- after the levels

  tick_unmarked : (p : Phase) (t : Task) → is_awaited p ≡ false → is_awaited (next_in p t Tick).phase ≡ false
  tick_unmarked Served t e = e
  tick_unmarked AtWork t e = not_marked _
  tick_unmarked Awaited t e = e

  tick_if_unmarked : (b : Bool) (t : Task) → is_awaited t.phase ≡ false → is_awaited (tick_if b t).phase ≡ false
  tick_if_unmarked true t e = tick_unmarked t.phase t e
  tick_if_unmarked false t e = e

  tick_deadline : (p : Phase) (t : Task) → (next_in p t Tick).share.deadline ≡ t.share.deadline
  tick_deadline Served t = refl
  tick_deadline AtWork t = refl
  tick_deadline Awaited t = refl

  tick_if_deadline : (b : Bool) (t : Task) → (tick_if b t).share.deadline ≡ t.share.deadline
  tick_if_deadline true t = tick_deadline t.phase t
  tick_if_deadline false t = refl

  module _ (choose : Rule) (s1 : State) (nm : List ℕ) (w : GoneOn choose s s1 nm) where
    abbrev runs_now : ℕ → Bool
    runs_now = runs (always choose) (machine s) (view s)

    pub preemptions_fit : s1.preemptions + 80 < 2 ^ 64
    preemptions_fit = omega (arith, ap (λ x. x.preemptions) w.kept, kept.preemptions, kept.in_time, short)

    pub unmarked_now : (i : ℕ) → i < s.sheet → is_awaited (task_at s1 i).phase ≡ false
    unmarked_now i h = ap (λ (t : Task). is_awaited t.phase) (w.each i) ∙ tick_if_unmarked (runs_now i) (task_at s i) (unawaited i h)

    -- ---- after the placing and the counts

    module _ (s2 : State) (p3 : Cores)
        (counted : s2 ≡ remade s1 s1.tick s1.tasks s1.levels s1.jobs (s1.preemptions + preemptions s1.unfinished.items nm) p3 s2.unfinished) where
      pub unmarked_placed : Unmarked s2
      unmarked_placed i h =
          ap (λ x. is_awaited (task_at x i).phase) counted ∙ unmarked_now i (omega (arith, ap (λ x. x.sheet) counted, ap (λ x. x.sheet) w.kept))

    -- ---- after the start of the next frame

    abbrev preempted_now : ℕ
    preempted_now = preemptions s.unfinished.items nm

    module _ (s2 s4 : State) (p3 : Cores)
        (counted : s2 ≡ remade s1 s1.tick s1.tasks s1.levels s1.jobs (s1.preemptions + preemptions s1.unfinished.items nm) p3 s2.unfinished)
        (left_over : s2.unfinished.items ≡ filter (has_left s1.tasks) nm)
        (few_now : preemptions s1.unfinished.items nm ≤ 80)
        (started : s4 ≡ remade s2 s2.tick s4.tasks s2.levels s2.jobs s2.preemptions s2.placing s2.unfinished)
        (items : (i : ℕ) → item_of (task_at s4 i) ≡ item_of (task_at s2 i)) where
      -- the run after it, by its parts
      abbrev after : State
      after = remade s (suc s.tick) s4.tasks s1.levels s.jobs (s.preemptions + preempted_now) p3 s2.unfinished

      pub whole : s4 ≡ after
      whole =
          started
          ∙ ap (λ x. remade x x.tick s4.tasks x.levels x.jobs x.preemptions x.placing s2.unfinished) counted
          ∙ ap (λ x. remade x x.tick s4.tasks s1.levels x.jobs (x.preemptions + preemptions x.unfinished.items nm) p3 s2.unfinished) w.kept

      items_now : (i : ℕ) → item_of (task_at s4 i) ≡ item_of (task_at s1 i)
      items_now i = items i ∙ ap (λ x. item_of (task_at x i)) counted

      module _ (long : length s4.tasks ≡ 80) where
        same_length : length s4.tasks ≡ length s1.tasks
        same_length = long ∙ sym w.table

        tasks_now : map item_of (take s.count s4.tasks) ≡ map item_of (take s.count s1.tasks)
        tasks_now = same_by item_of s.count s4.tasks s1.tasks same_length items_now

        view_now : view after ≡ step (always choose) (machine s) (view s)
        view_now = (λ p. record { tick = suc s.tick; tasks = tasks_now p; levels = levels_of after }) ∙ sym (ap view w.kept) ∙ w.goes

        -- the tasks left unfinished
        left_same : (i : ℕ) → i < s.count → has_left s1.tasks i ≡ ltb 0 (task (step (always choose) (machine s) (view s)) i).left
        left_same i h =
            ap (λ x. ltb 0 x.share.left) (sym (item_is_task s1 i (omega (arith, ap (λ x. x.count) w.kept))))
            ∙ ap (λ x. ltb 0 (task x i).left) w.goes

        member_runs : (b d e : Bool) → (b ≡ true → d ≡ e) → (b && d) ≡ (b && e)
        member_runs true d e same = same refl
        member_runs false d e same = refl

        before_now : (i : ℕ) → member i s2.unfinished.items ≡ unfinished choose (machine s) (view s) i
        before_now i =
            ap (member i) left_over
            ∙ member_kept (has_left s1.tasks) i nm
            ∙ member_runs (member i nm) (has_left s1.tasks i) _ (λ m. left_same i (all_member (λ t. t < s.count) nm i w.below m))
            ∙ ap (λ b. b && ltb 0 (task (step (always choose) (machine s) (view s)) i).left) (w.exactly.1 i)

        -- the preemptions
        size : length (tasks_of s) ≡ s.count
        size = length-map (take s.count s.tasks) item_of ∙ length-take-le s.count s.tasks (omega (arith, s.few_tasks, kept.table))

        preemptions_now : preempted_now ≡ count (length (tasks_of s)) (preempted choose (machine s) (view s) (run_of s).before)
        preemptions_now =
            let (different, below) = distinct_to s.count s.unfinished.items kept.unfinished in
            count_kept (length (tasks_of s)) (λ t. not (member t nm)) s.unfinished.items different
            (λ i m. omega (arith, size, all_member (λ t. t < s.count) s.unfinished.items i below m))
            ∙ (λ p. count (length (tasks_of s)) (λ i. member i s.unfinished.items && not (w.exactly.1 i p)))

        pub run_ticked : run_of s4 ≡ ticked (setting_of choose s) (run_of s)
        run_ticked =
            ap run_of whole
            ∙ (λ p. record { state = view_now p; jobs = s.jobs; preemptions = s.preemptions + preemptions_now p; before = λ i. before_now i p })

        -- ---- what the run carries

        deadline_now : (i : ℕ) → (task_at s4 i).share.deadline ≡ (task_at s i).share.deadline
        deadline_now i = ap (λ x. x.share.deadline) (items_now i) ∙ ap (λ (t : Task). t.share.deadline) (w.each i) ∙ tick_if_deadline (runs_now i) (task_at s i)

        sums : sum_by (λ (t : Task). t.share.deadline) (take s.count s4.tasks) ≡ sum_by (λ (t : Task). t.share.deadline) (take s.count s.tasks)
        sums =
            sym (sum-map (λ (t : Task). t.share.deadline) (take s.count s4.tasks))
            ∙ ap sum (same_by (λ (t : Task). t.share.deadline) s.count s4.tasks s.tasks (long ∙ sym kept.table) deadline_now)
            ∙ sum-map (λ (t : Task). t.share.deadline) (take s.count s.tasks)

        few_preempted : preempted_now ≤ 80
        few_preempted = omega (arith, few_now, ap (λ x. preemptions x.unfinished.items nm) w.kept)

        task_of : (x : Option ℕ) (t : ℕ) → is_task x t ≡ true → x ≡ Some t
        task_of None t e = let z : ◌≡◌ {A = Bool} true false = sym e in cc
        task_of (Some u) t e = ap Some (sym (eqb-true t u e))

        is_task_of : (x : Option ℕ) (t : ℕ) → x ≡ Some t → is_task x t ≡ true
        is_task_of x t e = ap (λ y. is_task y t) e ∙ eq-eqb t t refl

        pub recorded_of : Recorded s.placing
        recorded_of t c on = task_of (get_or s.placing.last t None) c (kept.recorded t c (is_task_of (get_or s.placing.held c None) t on))

        sizes_now : sizes (levels_of s1) ≡ sizes (levels_of s)
        sizes_now = ap (λ st. sizes st.levels) w.goes ∙ sizes_stepped (always choose) (machine s) (view s)

        kept_after : Phased s4 → Recorded p3 → KeptUnsized after
        kept_after phased recorded = record {
          table = long;
          in_time = goes_on;
          phased = subst Phased whole phased;
          within = λ i h. omega (arith, deadline_now i, kept.within i h);
          jobs = omega (arith, kept.jobs, sums);
          preemptions = omega (arith, kept.preemptions, few_preempted);
          unfinished = distinct_from s.count s2.unfinished.items
              (subst Different (sym left_over) (different_kept (has_left s1.tasks) nm w.exactly.0))
              (subst (AllByRecursion (λ i. i < s.count)) (sym left_over) (all_kept_by (has_left s1.tasks) (λ i. i < s.count) nm w.below));
          recorded = λ t c on. is_task_of (get_or p3.last t None) c (recorded t c (task_of (get_or p3.held c None) t on));
        }

        pub kept_ticked : Phased s4 → Recorded p3 → KeptUnsized s4
        kept_ticked phased recorded = subst KeptUnsized (sym whole) (kept_after phased recorded)

        -- and the levels have as many servers as before
        pub sized_ticked : Kept s → Phased s4 → Recorded p3 → Kept s4
        sized_ticked all phased recorded =
            subst Kept (sym whole)
            (kept_sized after (kept_after phased recorded)
            (omega (arith, all.few_levels, level_count s _ refl, level_count s1 _ sizes_now))
            (λ k. omega (arith, all.few_servers k, server_count s _ refl k, server_count s1 _ sizes_now k)))

        -- ---- the cores

        module _ (old new : List ℕ) (put : p3 ≡ placed s1.placing nm (limited s1.cores)) (shown : new ≡ written p3.held old)
            (lawful : Lawful s1.placing nm (limited s1.cores) p3) (list_shows : Listed nm (limited s1.cores) p3 old new)
            (wide : length old ≡ width) where
          placing_was : s1.placing ≡ s.placing
          placing_was = ap (λ x. x.placing) w.kept

          cores_were : s1.cores ≡ s.cores
          cores_were = ap (λ x. x.cores) w.kept

          placing_now : s4.placing ≡ p3
          placing_now = ap (λ x. x.placing) whole

          lawful_now : Lawful s.placing (named_by choose s) (limited s.cores) s4.placing
          lawful_now =
              subst (Lawful s.placing (named_by choose s) (limited s.cores)) (sym placing_now)
              (subst (λ n. Lawful s.placing (named_by choose s) (limited n) p3) cores_were
              (subst (λ x. Lawful x (named_by choose s) (limited s1.cores) p3) placing_was
              (subst (λ l. Lawful s1.placing l (limited s1.cores) p3) w.listed lawful)))

          pub granted_now : GrantedTick choose s old s4 new
          granted_now = record {
            granted = granted ∙ ap (λ n. refusal (figures_of s) (tick n)) (sym wide);
            goes = run_ticked;
            stays = ap (setting_of choose) whole;
            exactly = subst (Names runs_now) w.listed w.exactly;
            placing = placing_now ∙ put ∙ ap (λ x. placed x nm (limited s1.cores)) placing_was ∙ ap₂ (λ l n. placed s.placing l (limited n)) w.listed cores_were;
            list = shown ∙ ap (λ x. written x.held old) (sym placing_now);
            lawful = lawful_now;
            listed = subst (λ x. Listed (named_by choose s) (limited s.cores) x old new) (sym placing_now)
                (subst (λ n. Listed (named_by choose s) (limited n) p3 old new) cores_were (subst (λ l. Listed l (limited s1.cores) p3 old new) w.listed list_shows));
            keeps = λ t c on m h. lawful_now.keeps recorded_of t c on m (omega (arith, s.few_cores));
          }
