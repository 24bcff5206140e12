-- At the opening the scheduler and the ledger agree: the plan opens a run, and the idle tasks begin their jobs. Assumes nothing.
use Rattle.std.proofs.Common.{◌≡◌, ℕ, zero, suc, ◌+◌, ◌*◌, ◌<◌, ◌≤◌, ◌⊎◌, List, [], ◌∷◌, ◌++◌, length, get_or, drop, Option, sym, refl, ap, ◌∙◌, subst, inl, inr, arith}
use Rattle.std.proofs.lemmas.List.{append_assoc, append-nil, length-append}
use Rattle.std.proofs.lemmas.Bool.{cases_eq, cases_lt}
use Rattle.packing.specs.declared.opening.OpeningRefusal.TheVariants.{Load, BadFrames}
use Rattle.packing.specs.Packing.{Packing}
use Rattle.packing.specs.Plan.{all_tasks, OneSmallPlan}
use Rattle.packing.specs.Steps.{Limits}
use Rattle.packing.proofs.Idle.{limits, full_tasks, few_tasks}
use Rattle.packing.proofs.Plans.{one_small_plan}
use Rattle.levels.specs.Items.{item_at}
use Rattle.levels.specs.Running.{task}
use Rattle.levels.specs.Running.{announce as begin_job}
use Rattle.levels.specs.Opening.{items_of, homes_in, servers_in, opening, IsOpening}
use Rattle.levels.specs.Reaching.{Announces}
use Rattle.levels.specs.Counting.{opens}
use Rattle.levels.proofs.Plans.{every_plan_opens}
use Rattle.ledger.specs.Openings.{Opening, Granted, idle_rates, rates, rate, reductions}
use Rattle.ledger.specs.Ledger.{Job, Ledger, idle_jobs, fresh}
use Rattle.ledger.specs.Scheduler.{setting, Run, begun, planned, begin_idle, opened}
use Rattle.ledger.specs.Theorems.{EveryAllowedLoadOpens, EveryOpeningIsFresh}
use Rattle.ledger.proofs.Agreeing.{Agrees, same_figures, kept}
use Rattle.ledger.proofs.Announcing.{task_other, begun_is, agrees_begun}

-- ---- the plan

length_items : (rs : List ℕ) (hs : List (Option ℕ)) → length (items_of rs hs) ≡ length rs
length_items [] hs = refl
length_items (r ∷ rs) hs = ap suc (length_items rs (drop 1 hs))

-- every item has its rate, and has not begun
item_of : (rs : List ℕ) (hs : List (Option ℕ)) (i : ℕ)
    → ((item_at (items_of rs hs) i).share.left ≡ 0) × ((item_at (items_of rs hs) i).share.deadline ≡ 0) × ((item_at (items_of rs hs) i).share.rate ≡ get_or rs i 0)
item_of [] hs i = (refl, refl, refl)
item_of (r ∷ rs) hs zero = (refl, refl, refl)
item_of (r ∷ rs) hs (suc i) = item_of rs (drop 1 hs) i

length_servers : (plan : List Packing) → length (servers_in plan) ≡ length plan
length_servers [] = refl
length_servers (l ∷ above) = ap suc (length_servers above)

module _ (o : Opening) (g : Granted o) where
  load : Limits o.cores o.unit o.sheet
  load = limits o.cores o.unit o.sheet (λ f applies. g.allowed (Load f) applies)

  pub a_unit : 1 ≤ o.unit
  a_unit = load.a_unit

  a_frame : 1 ≤ o.frames
  a_frame = elim (cases_lt o.frames 1) [ inl h ↦ absurd (g.allowed BadFrames (inl h)) | inr h ↦ h ]

  small : OneSmallPlan o.fit o.unit o.cores (rates o)
  small = one_small_plan o.fit g.fits o.unit o.cores (rates o) (full_tasks o.cores o.unit o.sheet load)

  pub few_reductions : reductions o ≤ 4
  few_reductions = omega (arith, small.few_reductions, ap length (small.only o.plan g.planned))

  opens_run : IsOpening (setting o).machine (opening (rates o) o.plan)
  opens_run = every_plan_opens o.fit g.fits (setting o).machine (rates o) (full_tasks o.cores o.unit o.sheet load)
      (few_tasks o.cores o.unit o.sheet load) o.plan g.planned

pub every_allowed_load_opens : EveryAllowedLoadOpens
every_allowed_load_opens cores unit frames sheet ok fit fits choose chooses =
    let small : OneSmallPlan fit unit cores (all_tasks cores unit sheet) =
    one_small_plan fit fits unit cores (all_tasks cores unit sheet) (full_tasks cores unit sheet (limits cores unit sheet (λ f applies. ok (Load f) applies))) in (
      small.levels,
      record { allowed = ok; fits = fits; chooses = chooses; planned = small.is_plan },
      λ other g. small.only other g.planned,
    )

-- ---- before the idle tasks begin

-- the books at time 0
abbrev book : List Job → Ledger
book jobs = record { time = 0; jobs = jobs; unfinished = []; preemptions = 0 }

agrees_planned : (o : Opening) → Granted o → Agrees o (planned o) (book [])
agrees_planned o g = record {
  counted = opens (opens_run o g);
  time = refl;
  jobs = refl;
  preemptions = refl;
  lasts = λ i. let (left, deadline, rate) = item_of (rates o) (homes_in o.plan) i in (left, deadline);
  fine = tt;
  different = tt;
  before = λ i. refl;
  below = λ i e. let z : ◌≡◌ {A = ℕ} 0 1 = cc in absurd (omega arith);
  size = length_items (rates o) (homes_in o.plan);
  rate_is = λ i. (item_of (rates o) (homes_in o.plan) i).2;
  levels = length_servers o.plan;
}

-- ---- the idle tasks begin

-- Task k has no job yet; it is idle and has its job from frame 0 to the end.
abbrev pub Rests : Run → ℕ → Type 0
Rests r k = ((task r.state k).deadline ≡ 0) × ((task r.state k).left ≡ 0)

abbrev pub Idles : Opening → Run → ℕ → Type 0
Idles o r k = ((task r.state k).deadline ≡ o.frames) × ((task r.state k).left ≡ rate o k * o.frames)

-- The idle tasks below i have begun, and no others.
pub record Begun (o : Opening) (i : ℕ) (r : Run) : Type 0 where
  pub rests : (k : ℕ) → (k < length o.sheet) ⊎ (i ≤ k) → Rests r k
  pub idles : (k : ℕ) → length o.sheet ≤ k → k < i → Idles o r k

-- one more
module _ (o : Opening) (g : Granted o) (i : ℕ) (r : Run) (jobs : List Job) (listed : length o.sheet ≤ i) (below : i < length (rates o)) (a : Agrees o r (book jobs)) (b : Begun o i r) where
  abbrev new : Job
  new = record { task = i; release = 0; deadline = o.frames; held = [] }

  none : (task r.state i).deadline ≡ 0
  none = (b.rests i (inr (omega arith))).0

  w : Announces (setting o).machine r.state i o.frames
  w = record {
    one = omega (arith, a.size);
    due = omega (arith, a.time, ap (λ d. o.unit * d) none);
    later = omega (arith, none, a_frame o g);
    within = omega arith;
  }

  agrees_more : Agrees o (begun i o.frames r) (book (jobs ++ new ∷ []))
  agrees_more = agrees_begun o g.chooses r (book jobs) a i o.frames 0 w (sym none)

  still : (P : ℕ → ℕ → Type 0) (k : ℕ) → (k ≡ i → ⊥) → P (task r.state k).deadline (task r.state k).left
      → P (task (begin_job i o.frames r.state) k).deadline (task (begin_job i o.frames r.state) k).left
  still P k n h = subst (λ c. P c.deadline c.left) (sym (task_other r.state i o.frames k n)) h

  begun_more : Begun o (suc i) (begun i o.frames r)
  begun_more = record {
    rests = λ k h. still (λ d q. (d ≡ 0) × (q ≡ 0)) k (apart k h) (b.rests k (before k h));
    idles = λ k s h. elim (cases_eq k i) [
      | inl e ↦ subst (Idles o (begun i o.frames r)) (sym e) now
      | inr n ↦ still (λ d q. (d ≡ o.frames) × (q ≡ rate o k * o.frames)) k n (b.idles k s (omega arith))
    ];
  }
    where
      apart : (k : ℕ) → (k < length o.sheet) ⊎ (suc i ≤ k) → k ≡ i → ⊥
      apart k (inl h) e = omega arith
      apart k (inr h) e = omega arith

      before : (k : ℕ) → (k < length o.sheet) ⊎ (suc i ≤ k) → (k < length o.sheet) ⊎ (i ≤ k)
      before k (inl h) = inl h
      before k (inr h) = inr (omega arith)

      now : Idles o (begun i o.frames r) i
      now = let (d, q) = begun_is o g.chooses r (book jobs) a i o.frames 0 w (sym none) in (d, q ∙ ap (λ n. rate o i * n) (omega arith))

-- all of them, from i on
begin_all : (o : Opening) → Granted o → (i : ℕ) (rs : List ℕ) (r : Run) (jobs : List Job) → length o.sheet ≤ i → i + length rs ≡ length (rates o) → Agrees o r (book jobs) → Begun o i r
    → Agrees o (begin_idle o.frames i rs r) (book (jobs ++ idle_jobs o.frames i rs)) × Begun o (length (rates o)) (begin_idle o.frames i rs r)
begin_all o g i [] r jobs s n a b = (subst (λ js. Agrees o r (book js)) (sym (append-nil jobs)) a, subst (λ k. Begun o k r) (omega arith) b)
begin_all o g i (x ∷ rs) r jobs s n a b =
    let job : Job = record { task = i; release = 0; deadline = o.frames; held = [] } in
    let below : i < length (rates o) = omega arith in
    let (all, BegunAll) = begin_all o g (suc i) rs (begun i o.frames r) (jobs ++ job ∷ []) (omega arith) (omega arith) (agrees_more o g i r jobs s below a b) (begun_more o g i r jobs s below a b) in
    (subst (λ js. Agrees o (begin_idle o.frames (suc i) rs (begun i o.frames r)) (book js)) (append_assoc jobs (job ∷ []) (idle_jobs o.frames (suc i) rs)) all, BegunAll)

pub agrees_opened : (o : Opening) → Granted o → Agrees o (opened o) (fresh o) × Begun o (length (rates o)) (opened o)
agrees_opened o g =
    begin_all o g (length o.sheet) (idle_rates o) (planned o) [] (omega arith) (sym (length-append o.sheet (idle_rates o))) (agrees_planned o g)
    (record { rests = λ k h. let (left, deadline, rate) = item_of (rates o) (homes_in o.plan) k in (deadline, left); idles = λ k s h. absurd (omega arith) })

-- ---- what is wanted of an opening

length_idle : (frames i : ℕ) (rs : List ℕ) → length (idle_jobs frames i rs) ≡ length rs
length_idle frames i [] = refl
length_idle frames i (r ∷ rs) = ap suc (length_idle frames (suc i) rs)

pub every_opening_is_fresh : EveryOpeningIsFresh
every_opening_is_fresh o g =
    let (a, b) = agrees_opened o g in
    record {
      time = sym a.time;
      preemptions = sym a.preemptions;
      jobs = sym a.jobs ∙ length_idle o.frames (length o.sheet) (idle_rates o);
      sheet = λ i h. b.rests i (inl h);
      idle = λ i s h. b.idles i s h;
      figures = sym (same_figures o (opened o) (fresh o) a);
      reached = record { set = refl; given = tt; ends = refl };
      conforms = kept o g.chooses (opened o) (fresh o) a (few_reductions o g);
    }
