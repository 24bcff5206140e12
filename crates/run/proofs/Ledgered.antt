-- The tables of an opened run, read as the run that the laws speak of. Assumes nothing.
use Rattle.std.proofs.Common.{◌≡◌, ℕ, suc, ◌+◌, ◌≤◌, Bool, true, false, List, [], ◌∷◌, length, get_or, replicate, None, sym, ap, ◌∙◌, subst, arith}
use Rattle.std.specs.List.{AllByRecursion}
use Rattle.packing.specs.Fitting.{Rule, Lawful}
use Rattle.packing.specs.Plan.{all_tasks, idle, spare}
use Rattle.choosing.specs.Choosing.{Rule as Choosing, Lawful as LawfulChoosing}
use Rattle.levels.specs.Running.{State, announce}
use Rattle.levels.specs.Opening.{opening, servers_in}
use Rattle.cores.specs.Naming.{member}
use Rattle.cores.specs.Placing.{blank, is_task}
use Rattle.ledger.specs.Openings.{Opening, Granted, idle_rates, opening_of, rates}
use Rattle.ledger.specs.Scheduler.{opened, setting}
use Rattle.ledger.specs.Theorems.{FreshRun}
use Rattle.ledger.proofs.Opened.{every_opening_is_fresh}
use Rattle.ledger.specs.Scheduler as ledger
use Rattle.run.specs.declared.state.State.{State as Tables}
use Rattle.run.specs.Keeping.{Phased, DeadlinesWithin, FewJobs, Kept, distinct_below}
use Rattle.run.specs.Opened.{begin_idle, Opens, NeverOpened}
use Rattle.run.specs.Runs.{run_of, setting_of, OpenedRun, BlankRun}
use Rattle.run.specs.Views.{levels_of}
use Rattle.run.proofs.Sizes.{few_planned, level_count, levels_begun, server_count, sizes, small_planned}
use Rattle.run.proofs.Tables.{get_or_blank}
use Rattle.run.proofs.Unsized.{KeptUnsized, kept_sized}

-- idle tasks begin their jobs: the state and the count of jobs apart
begun_apart : (frames i : ℕ) (rates : List ℕ) (st : State) (jobs preemptions : ℕ) (before : ℕ → Bool)
    → ledger.begin_idle frames i rates (record { state = st; jobs = jobs; preemptions = preemptions; before = before })
    ≡ record { state = begin_idle frames i rates st; jobs = jobs + length rates; preemptions = preemptions; before = before }
begun_apart frames i [] st jobs preemptions before =
    let none : jobs ≡ jobs + 0 = omega arith in
    λ t. record { state = st; jobs = none t; preemptions = preemptions; before = before }
begun_apart frames i (rate ∷ rates) st jobs preemptions before =
    let more : suc jobs + length rates ≡ jobs + suc (length rates) = omega arith in
    begun_apart frames (suc i) rates (announce i frames st) (suc jobs) preemptions before
    ∙ (λ t. record { state = begin_idle frames i (rate ∷ rates) st; jobs = more t; preemptions = preemptions; before = before })

is_opened : (fit : Rule) (cores unit frames : ℕ) (sheet : List ℕ) (s : Tables) (choose : Choosing) (opens : Opens fit cores unit frames sheet s)
    → run_of s ≡ opened (opening_of cores unit frames sheet fit choose opens.plan.levels)
is_opened fit cores unit frames sheet s choose opens =
    let o : Opening = opening_of cores unit frames sheet fit choose opens.plan.levels in
    let a = opens.shows in
    let none : length (idle_rates o) ≡ 0 + length (idle_rates o) = omega arith in
    let b = opens.begun ∙ none in
    let d = opens.unpreempted in
    let e : (i : ℕ) → member i s.unfinished.items ≡ false = λ i. ap (member i) opens.none_unfinished in
    (λ t. record { state = a t; jobs = b t; preemptions = d t; before = λ i. e i t })
    ∙ sym (begun_apart frames (length sheet) (idle_rates o) (opening (rates o) opens.plan.levels) 0 0 (λ i. false))

-- ---- what a run without ticks carries

none_on : (n c t : ℕ) → is_task (get_or (replicate n None) c None) t ≡ false
none_on n c t = ap (λ x. is_task x t) (get_or_blank None n c)

pub kept_unticked : (s : Tables) → length s.tasks ≡ 80 → s.tick ≡ 0 → Phased s → DeadlinesWithin s → FewJobs s → s.preemptions ≡ 0 → s.placing ≡ blank → s.unfinished.items ≡ [] → KeptUnsized s
kept_unticked s table starts phased within jobs unpreempted unplaced none = record {
  table = table;
  in_time = omega (arith, starts);
  phased = phased;
  within = within;
  jobs = jobs;
  preemptions = omega (arith, unpreempted);
  unfinished = ap (distinct_below s.count) none;
  recorded = λ t c on. let clash : false ≡ true = sym (ap (λ x. is_task (get_or x.held c None) t) unplaced ∙ none_on 16 c t) ∙ on in cc;
}

-- ---- an opened run

-- the most servers that the levels of a plan have
abbrev most : List ℕ
most = 31 ∷ 16 ∷ 8 ∷ 4 ∷ 2 ∷ []

pub kept_opened : (fit : Rule) (cores unit frames : ℕ) (sheet : List ℕ) (s : Tables) → Opens fit cores unit frames sheet s → Kept s
kept_opened fit cores unit frames sheet s opens =
    let plan = opens.plan.levels in
    let tasks = all_tasks cores unit sheet in
    let sized : sizes (levels_of s) ≡ sizes (servers_in plan) =
    ap (λ st. sizes st.levels) opens.shows ∙ ap sizes (levels_begun frames (length sheet) (idle unit (spare cores unit sheet)) (opening tasks plan)) in
    let small : AllByRecursion (λ n. n ≤ 31) most = (omega arith, (omega arith, (omega arith, (omega arith, (omega arith, tt))))) in
    kept_sized s (kept_unticked s opens.table opens.starts opens.phased opens.within opens.few_jobs opens.unpreempted opens.unplaced opens.none_unfinished)
    (omega (arith, level_count s _ sized, few_planned most plan opens.plan.sized))
    (λ k. omega (arith, server_count s _ sized k, small_planned most plan k small opens.plan.sized))

pub opened_run : (fit : Rule) → Lawful fit → (choose : Choosing) → LawfulChoosing choose → (cores unit frames : ℕ) (sheet : List ℕ) (s : Tables) → Opens fit cores unit frames sheet s
    → OpenedRun fit choose cores unit frames sheet s
opened_run fit fits choose chooses cores unit frames sheet s opens =
    let o : Opening = opening_of cores unit frames sheet fit choose opens.plan.levels in
    let granted : Granted o = record { allowed = opens.allowed; fits = fits; chooses = chooses; planned = opens.plan.is_plan } in
    let goes : run_of s ≡ opened o = is_opened fit cores unit frames sheet s choose opens in
    let stays : setting_of choose s ≡ setting o = λ t. record { machine = opens.runs_on t; tasks = opens.sheet_tasks t; choose = choose } in
    record {
      plan = opens.plan;
      granted = granted;
      goes = goes;
      stays = stays;
      placing = opens.unplaced;
      fresh = subst (FreshRun o (setting_of choose s)) (sym goes) (subst (λ x. FreshRun o x (opened o)) (sym stays) (every_opening_is_fresh o granted));
    }

-- ---- a run that was never opened

pub kept_blank : (s : Tables) → NeverOpened s → Kept s
kept_blank s never =
    let none : sizes (levels_of s) ≡ [] = ap (λ x. sizes x.levels) never.shows in
    kept_sized s (kept_unticked s never.table (ap (λ x. x.tick) never.shows) never.phased never.within never.few_jobs never.unpreempted never.unplaced never.none_unfinished)
    (omega (arith, level_count s [] none)) (λ k. omega (arith, server_count s [] none k))

pub blank_run : (choose : Choosing) (s : Tables) → NeverOpened s → BlankRun choose s
blank_run choose s never = record {
  goes =
      let a = never.shows in
      let b = never.unbegun in
      let d = never.unpreempted in
      let e : (i : ℕ) → member i s.unfinished.items ≡ false = λ i. ap (member i) never.none_unfinished in
      λ t. record { state = a t; jobs = b t; preemptions = d t; before = λ i. e i t };
  stays = λ t. record { machine = never.runs_on t; tasks = never.no_sheet t; choose = choose };
  placing = never.unplaced;
}
