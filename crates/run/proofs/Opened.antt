-- The tables that are filled at an opening, and what they show. Assumes nothing.
use Rattle.std.proofs.Common.{◌≡◌, ℕ, suc, ◌+◌, ◌-◌, ◌*◌, ◌<◌, ◌≤◌, true, false, cond, not, ◌&&◌, eqb, leb, List, [], ◌∷◌, ◌++◌, map, length, get_or, take, drop, set, replicate, None, sum_by, Option, sym, refl, ap, ◌∙◌, subst, inl, inr, mul-pos, mul-zero, arith}
use lib.Seq.{append_snoc, get_or_at, set_at}
use Rattle.arrayvec.specs.ArrayVec.{ArrayVec}
use Rattle.std.specs.List.{AllByRecursion}
use Rattle.std.proofs.ByRecursion.{All-drop, All-map, All-weaker}
use Rattle.std.proofs.lemmas.List.{get_or_append_left, get_or-append_right, get_or-drop, get_or-map, get_or-take, length-append, length-drop, length-map, length_push, length-take-le, map-append, take-append-drop, take-append-le, take_at}
use Rattle.std.proofs.lemmas.List.Sums.{sum_by-append, sum_by-cons}
use Rattle.std.proofs.lemmas.Bool.{cases_lt, eq-eqb, lt-leb, lt-ltb}
use Rattle.packing.specs.declared.plan.Plan.{Plan}
use Rattle.packing.specs.Tables.{over, levels_in}
use Rattle.packing.proofs.Over.{length_over, over_over}
use Rattle.levels.specs.declared.item.Item.{Item}
use Rattle.levels.specs.declared.server.Server.{Server}
use Rattle.levels.specs.Items.{no_item}
use Rattle.levels.specs.Opening.{homes_in, items_of, opening, servers_in}
use Rattle.levels.specs.Running.{item_with_job}
use Rattle.levels.specs.Running as theory
use Rattle.cores.specs.declared.place.Cores.{Cores}
use Rattle.cores.specs.Placing.{blank}
use Rattle.run.specs.declared.state.State.{State}
use Rattle.run.specs.declared.task.Event.TheVariants.{Announce}
use Rattle.run.specs.declared.task.Phase.TheVariants.{AtWork, Awaited, Served}
use Rattle.run.specs.declared.task.Task.{Task}
use Rattle.run.specs.Keeping.{due, DeadlinesWithin, FewJobs, Phased}
use Rattle.run.specs.Opened.{begin_idle, begun_to, each, Filled, Fits, planned_tasks, rates_in, unbegun_task}
use Rattle.run.specs.Phases.{is_awaited, next_in}
use Rattle.run.specs.Views.{item_of, level_servers, tasks_of, view, blank_task}
use Rattle.run.proofs.Written.{each_at, length_each, length_servers_in}

-- ---- the theory: idle tasks begin their jobs

abbrev state : List (List Server) → List Item → theory.State
state levels tasks = record { tick = 0; tasks = tasks; levels = levels }

-- the tasks from some place on, as many as there are rates, have begun
begun_from : (frames i : ℕ) (rates : List ℕ) (front back : List Item) (levels : List (List Server)) → length front ≡ i → length rates ≡ length back
    → begin_idle frames i rates (state levels (front ++ back)) ≡ state levels (front ++ map (item_with_job frames) back)
begun_from frames i [] front [] levels count same = refl
begun_from frames i [] front (x ∷ back) levels count same = absurd (omega arith)
begun_from frames i (rate ∷ rates) front [] levels count same = absurd (omega arith)
begun_from frames i (rate ∷ rates) front (x ∷ back) levels count same =
    let y : Item = item_with_job frames x in
    let next : length (front ++ y ∷ []) ≡ suc i = length_push front y ∙ omega arith in
    let told : set (front ++ x ∷ back) i (item_with_job frames (get_or (front ++ x ∷ back) i no_item)) ≡ (front ++ y ∷ []) ++ back =
    ap (λ z. set (front ++ x ∷ back) i (item_with_job frames z)) (get_or_at front x back no_item i count)
    ∙ set_at front x back y i count
    ∙ sym (append_snoc front y back) in
    ap (λ ts. begin_idle frames (suc i) rates (state levels ts)) told
    ∙ begun_from frames (suc i) rates (front ++ y ∷ []) back levels next (omega arith)
    ∙ ap (state levels) (append_snoc front y (map (item_with_job frames) back))

-- ---- the tasks in their table

abbrev Awaits : Task → Type 0
Awaits t = t.phase ≡ Awaited

all_awaited : (rates : List ℕ) (homes : List (Option ℕ)) → AllByRecursion Awaits (each unbegun_task rates homes)
all_awaited [] homes = tt
all_awaited (rate ∷ rest) homes = (refl, all_awaited rest (drop 1 homes))

items_each : (rates : List ℕ) (homes : List (Option ℕ)) → map item_of (each unbegun_task rates homes) ≡ items_of rates homes
items_each [] homes = refl
items_each (rate ∷ rest) homes = ap (λ xs. item_of (unbegun_task rate (get_or homes 0 None)) ∷ xs) (items_each rest (drop 1 homes))

begun_items : (frames : ℕ) (ts : List Task) → AllByRecursion Awaits ts → map item_of (map (begun_to frames) ts) ≡ map (item_with_job frames) (map item_of ts)
begun_items frames [] all = refl
begun_items frames (t ∷ ts) all =
    let here : item_of (begun_to frames t) ≡ item_with_job frames (item_of t) = ap (λ ph. item_of (next_in ph t (Announce frames))) all.0 in
    let rest = begun_items frames ts all.1 in
    cc

begun_deadline : (frames : ℕ) (t : Task) → Awaits t → (begun_to frames t).share.deadline ≡ frames
begun_deadline frames t awaits = ap (λ ph. (next_in ph t (Announce frames)).share.deadline) awaits

-- every one has at least 1
sum_of_some : {X : Type 0} (f : X → ℕ) (xs : List X) → AllByRecursion (λ x. 1 ≤ f x) xs → length xs ≤ sum_by f xs
sum_of_some f [] all = omega arith
sum_of_some f (x ∷ xs) all = omega (arith, all.0, sum_of_some f xs all.1, sum_by-cons f x xs)

module _ (p : Plan) (cores frames sheet : ℕ) (fits : Fits p cores frames sheet) (n : ℕ) (counted : n ≡ length (rates_in p)) where
  abbrev planned : List Task
  planned = planned_tasks p

  -- the idle ones have begun
  abbrev pub opened_tasks : List Task
  opened_tasks = take sheet planned ++ map (begun_to frames) (drop sheet planned)

  abbrev pub tasks_table : List Task
  tasks_table = over opened_tasks (replicate 80 blank_task)

  length_rates : length (rates_in p) ≡ n
  length_rates = sym counted

  length_tasks : length planned ≡ n
  length_tasks = length_each unbegun_task (rates_in p) (homes_in (levels_in p)) ∙ length_rates

  front_sheet : sheet ≤ n
  front_sheet = omega (arith, counted, fits.sheet_tasks)

  length_sheet : length (take sheet planned) ≡ sheet
  length_sheet = length-take-le sheet planned (omega (arith, length_tasks, front_sheet))

  length_opened : length opened_tasks ≡ n
  length_opened =
      length-append (take sheet planned) (map (begun_to frames) (drop sheet planned))
      ∙ omega (arith, length_sheet, length-map (drop sheet planned) (begun_to frames), length-drop sheet planned, length_tasks, front_sheet)

  pub tasks_filled : (first last : List Task) → first ≡ over planned (replicate 80 blank_task)
      → last ≡ over (take sheet first ++ map (begun_to frames) (drop sheet (take n first))) first → last ≡ tasks_table
  tasks_filled first last filled begun =
      let blanks : List Task = replicate 80 blank_task in
      let rest : List Task = drop (length planned) blanks in
      let long : length planned ≤ length opened_tasks = omega (arith, length_tasks, length_opened) in
      begun
      ∙ ap (λ xs. over (take sheet xs ++ map (begun_to frames) (drop sheet (take n xs))) xs) filled
      ∙ ap (λ xs. over (xs ++ map (begun_to frames) (drop sheet (take n (over planned blanks)))) (over planned blanks))
      (take-append-le sheet planned rest (omega (arith, length_tasks, front_sheet)))
      ∙ ap (λ xs. over (take sheet planned ++ map (begun_to frames) (drop sheet xs)) (over planned blanks)) (take_at planned rest n length_tasks)
      ∙ over_over planned opened_tasks blanks long

  front : take n tasks_table ≡ opened_tasks
  front = take_at opened_tasks (drop (length opened_tasks) (replicate 80 blank_task)) n length_opened

  -- task i of the sheet, and idle task i
  task_at_front : (i : ℕ) → i < n → get_or tasks_table i blank_task ≡ get_or opened_tasks i blank_task
  task_at_front i below = get_or_append_left opened_tasks (drop (length opened_tasks) (replicate 80 blank_task)) blank_task i (omega (arith, length_opened))

  sheet_at : (i : ℕ) → i < sheet → get_or tasks_table i blank_task ≡ unbegun_task (get_or (rates_in p) i 0) (get_or (homes_in (levels_in p)) i None)
  sheet_at i below =
      task_at_front i (omega (arith, front_sheet))
      ∙ get_or_append_left (take sheet planned) (map (begun_to frames) (drop sheet planned)) blank_task i (omega (arith, length_sheet))
      ∙ get_or-take sheet planned i blank_task below
      ∙ each_at unbegun_task (rates_in p) (homes_in (levels_in p)) i blank_task (omega (arith, length_rates, front_sheet))

  idle_at : (i : ℕ) → sheet ≤ i → i < n
      → get_or tasks_table i blank_task ≡ begun_to frames (unbegun_task (get_or (rates_in p) i 0) (get_or (homes_in (levels_in p)) i None))
  idle_at i low below =
      let back : sheet + (i - sheet) ≡ i = omega arith in
      let inside : i - sheet < length (drop sheet planned) = omega (arith, length-drop sheet planned, length_tasks) in
      task_at_front i below
      ∙ get_or-append_right (take sheet planned) (map (begun_to frames) (drop sheet planned)) sheet i blank_task length_sheet low
      ∙ get_or-map (begun_to frames) (drop sheet planned) (i - sheet) blank_task blank_task inside
      ∙ ap (begun_to frames)
      (get_or-drop sheet planned (i - sheet) blank_task
      ∙ ap (λ n. get_or planned n blank_task) back
      ∙ each_at unbegun_task (rates_in p) (homes_in (levels_in p)) i blank_task (omega (arith, length_rates)))

  -- ---- the whole

  module _ (levels : ArrayVec (ArrayVec Server)) (made : map level_servers levels.items ≡ servers_in (levels_in p)) (unfinished : ArrayVec ℕ) (none : unfinished.items ≡ [])
      (few_tasks : n ≤ 80) (sheet_tasks : sheet ≤ n) (few_cores : cores ≤ 16) (few_frames : frames ≤ 65535) where
    abbrev made_of : (unit : ℕ) → unit ≤ 1000 → List Task → Cores → State
    made_of unit small_unit tasks placing = record {
      cores = cores;
      unit = unit;
      frames = frames;
      tick = 0;
      sheet = sheet;
      tasks = tasks;
      count = n;
      levels = levels;
      jobs = n - sheet;
      preemptions = 0;
      placing = placing;
      unfinished = unfinished;
      few_tasks = few_tasks;
      sheet_tasks = sheet_tasks;
      few_cores = few_cores;
      small_unit = small_unit;
      few_frames = few_frames;
    }

    module _ (small_unit : p.unit ≤ 1000) where
      abbrev opened_state : State
      opened_state = made_of p.unit small_unit tasks_table blank

      tasks_shown : tasks_of opened_state ≡ map item_of (take sheet planned) ++ map (item_with_job frames) (map item_of (drop sheet planned))
      tasks_shown =
          let awaited = All-drop Awaits sheet planned (all_awaited (rates_in p) (homes_in (levels_in p))) in
          ap (map item_of) front
          ∙ map-append item_of (take sheet planned) (map (begun_to frames) (drop sheet planned))
          ∙ ap (λ xs. map item_of (take sheet planned) ++ xs) (begun_items frames (drop sheet planned) awaited)

      planned_shown : map item_of (take sheet planned) ++ map item_of (drop sheet planned) ≡ items_of (rates_in p) (homes_in (levels_in p))
      planned_shown =
          sym (map-append item_of (take sheet planned) (drop sheet planned))
          ∙ ap (map item_of) (take-append-drop sheet planned)
          ∙ items_each (rates_in p) (homes_in (levels_in p))

      shown : view opened_state ≡ begin_idle frames sheet (drop sheet (rates_in p)) (opening (rates_in p) (levels_in p))
      shown =
          let all = servers_in (levels_in p) in
          let low = map item_of (take sheet planned) in
          let high = map item_of (drop sheet planned) in
          let count : length low ≡ sheet = length-map (take sheet planned) item_of ∙ length_sheet in
          let same : length (drop sheet (rates_in p)) ≡ length high =
          omega (arith, length-drop sheet (rates_in p), length_rates, length-map (drop sheet planned) item_of, length-drop sheet planned, length_tasks) in
          ap (λ ls. state ls (tasks_of opened_state)) made
          ∙ ap (state all) tasks_shown
          ∙ sym (begun_from frames sheet (drop sheet (rates_in p)) low high all count same)
          ∙ ap (λ xs. begin_idle frames sheet (drop sheet (rates_in p)) (state all xs)) planned_shown

      works : (i : ℕ) → sheet ≤ i → i < n → (get_or tasks_table i blank_task).phase ≡ AtWork
      works i low below =
          let rate = get_or (rates_in p) i 0 in
          let full : 0 < frames - 0 = omega (arith, fits.a_frame) in
          let left : 0 < rate * (frames - 0) = mul-pos (fits.rated i (omega (arith, counted))) full in
          ap (λ t. t.phase) (idle_at i low below) ∙ ap (λ b. cond b AtWork Served) (lt-ltb 0 (rate * (frames - 0)) left)

      phases : Phased opened_state
      phases i below =
          let lasts : 0 < p.unit * frames = mul-pos fits.a_unit fits.a_frame in
          let more : leb (p.unit * frames) 0 ≡ false = lt-leb (p.unit * frames) 0 lasts in
          let now : eqb 0 (p.unit * 0) ≡ true = eq-eqb 0 (p.unit * 0) (sym (mul-zero p.unit)) in
          subst (λ t. is_awaited t.phase ≡ due opened_state t.share.deadline) (sym (sheet_at i below))
          (sym (ap (λ b. not b && eqb 0 (p.unit * 0)) more ∙ now))

      ends : DeadlinesWithin opened_state
      ends i below =
          elim (cases_lt i sheet) [
            | inl early ↦ subst (λ t. t.share.deadline ≤ frames) (sym (sheet_at i early)) (omega arith)
            | inr late ↦ subst (λ t. t.share.deadline ≤ frames) (sym (idle_at i late below)) (omega arith)
          ]

      jobs_few : FewJobs opened_state
      jobs_few =
          let due_by : Task → ℕ = λ t. t.share.deadline in
          let idle = map (begun_to frames) (drop sheet planned) in
          let each_some : AllByRecursion (λ t. 1 ≤ due_by t) idle =
          All-map (λ t. 1 ≤ due_by t) (begun_to frames) (drop sheet planned)
          (All-weaker Awaits (λ t. 1 ≤ due_by (begun_to frames t)) (λ t awaits. omega (arith, begun_deadline frames t awaits, fits.a_frame)) (drop sheet planned)
          (All-drop Awaits sheet planned (all_awaited (rates_in p) (homes_in (levels_in p))))) in
          let long : length idle ≡ n - sheet = length-map (drop sheet planned) (begun_to frames) ∙ length-drop sheet planned ∙ ap (λ n. n - sheet) length_tasks in
          omega (arith, ap (sum_by due_by) front, sum_by-append due_by (take sheet planned) idle, sum_of_some due_by idle each_some, long)

      deep : length levels.items ≡ length (levels_in p)
      deep = sym (length-map levels.items level_servers) ∙ ap length made ∙ length_servers_in (levels_in p)

      opened_filled : Filled p cores frames sheet opened_state
      opened_filled = record {
        shows = shown;
        runs_on = refl;
        starts = refl;
        sheet_tasks = refl;
        all_tasks = counted;
        all_levels = deep;
        begun = ap (λ k. k - sheet) counted;
        unpreempted = refl;
        unplaced = refl;
        none_unfinished = none;
        awaited = λ i below. ap (λ t. t.phase) (sheet_at i below);
        at_work = λ i low below. works i low (omega (arith, counted));
        phased = phases;
        within = ends;
        few_jobs = jobs_few;
        table = length_over opened_tasks (replicate 80 blank_task) (omega (arith, length_opened, few_tasks));
      }

    pub filled_tables : (unit : ℕ) (small_unit : unit ≤ 1000) (tasks : List Task) (placing : Cores) → unit ≡ p.unit → tasks ≡ tasks_table → placing ≡ blank
        → Filled p cores frames sheet (made_of unit small_unit tasks placing)
    filled_tables unit small_unit tasks placing same written unplaced =
        subst (λ (u : ℕ). (small : u ≤ 1000) → Filled p cores frames sheet (made_of u small tasks placing)) (sym same)
        (λ small. subst (λ (ts : List Task). Filled p cores frames sheet (made_of p.unit small ts placing)) (sym written)
        (subst (λ (x : Cores). Filled p cores frames sheet (made_of p.unit small tasks_table x)) (sym unplaced) (opened_filled small)))
        small_unit
