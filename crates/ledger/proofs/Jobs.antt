-- The jobs of a ledger: the last job of each task, as jobs are added and held, and what holds of every job. Assumes nothing.
use Rattle.std.proofs.Common.{◌≡◌, ℕ, suc, ◌*◌, ◌<◌, ◌≤◌, Bool, true, false, cond, not, ◌&&◌, eqb, List, [], ◌∷◌, ◌++◌, length, is_some, Some, None, Option, sym, refl, ap, ◌∙◌, arith}
use Rattle.std.proofs.lemmas.Bool.{eqb-true, eq-eqb, and_parts, both_ways, not-true}
use Rattle.std.specs.List.{AllByRecursion}
use Rattle.cores.specs.Naming.{member}
use Rattle.ledger.specs.Openings.{Opening}
use Rattle.ledger.specs.Ledger.{Job, or_else, last_job, length_of, at_time, hold, Rising, Served}

-- ---- a job that is added is its task's last

or_else_cond : (b : Bool) (job : Job) (later o : Option Job) → or_else (cond b (Some job) later) o ≡ cond b (Some job) (or_else later o)
or_else_cond true job later o = refl
or_else_cond false job later o = refl

pub last_push : (k : ℕ) (jobs : List Job) (job : Job) → last_job k (jobs ++ job ∷ []) ≡ cond (eqb job.task k) (Some job) (last_job k jobs)
last_push k [] job = refl
last_push k (j ∷ jobs) job =
    ap (λ o. or_else o (cond (eqb j.task k) (Some j) None)) (last_push k jobs job) ∙ or_else_cond (eqb job.task k) job (last_job k jobs) (cond (eqb j.task k) (Some j) None)

-- ---- a time that is added goes to the last job

abbrev pub held_if : Bool → ℕ → Option Job → Option Job
held_if b t None = None
held_if b t (Some job) = Some (cond b (at_time t job) job)

task_held : (b : Bool) (t : ℕ) (job : Job) → (cond b (at_time t job) job).task ≡ job.task
task_held true t job = refl
task_held false t job = refl

pub and_true : (b : Bool) → (b && true) ≡ b
and_true true = refl
and_true false = refl

pub last_hold : (t : ℕ) (tasks : List ℕ) (k : ℕ) (jobs : List Job) → last_job k (hold t tasks jobs) ≡ held_if (member k tasks) t (last_job k jobs)
last_hold t tasks k [] = refl
last_hold t tasks k (j ∷ jobs) = later (last_job k jobs) refl (last_hold t tasks k jobs)
  where
    last : Bool
    last = member j.task tasks && not (is_some (last_job j.task jobs))

    j' : Job
    j' = cond last (at_time t j) j

    own : (b : Bool) → eqb j.task k ≡ b → last_job k jobs ≡ None → cond (eqb j'.task k) (Some j') None ≡ held_if (member k tasks) t (cond b (Some j) None)
    own true e n =
        let same : j.task ≡ k = eqb-true _ _ e in
        let flag : last ≡ member k tasks = ap (λ i. member i tasks && not (is_some (last_job i jobs))) same ∙ ap (λ o. member k tasks && not (is_some o)) n ∙ and_true (member k tasks) in
        ap (λ i. cond (eqb i k) (Some j') None) (task_held last t j) ∙ ap (λ b. cond b (Some j') None) e ∙ ap (λ b. Some (cond b (at_time t j) j)) flag
    own false e n = ap (λ i. cond (eqb i k) (Some j') None) (task_held last t j) ∙ ap (λ b. cond b (Some j') None) e

    later : (o : Option Job) → last_job k jobs ≡ o → last_job k (hold t tasks jobs) ≡ held_if (member k tasks) t o
        → or_else (last_job k (hold t tasks jobs)) (cond (eqb j'.task k) (Some j') None) ≡ held_if (member k tasks) t (or_else o (cond (eqb j.task k) (Some j) None))
    later None n ih = ap (λ o. or_else o (cond (eqb j'.task k) (Some j') None)) ih ∙ own (eqb j.task k) refl n
    later (Some q) n ih = ap (λ o. or_else o (cond (eqb j'.task k) (Some j') None)) ih

-- the last job of a tail is the last job of the whole
last_tail : (i : ℕ) (j : Job) (jobs : List Job) (job : Job) → last_job i jobs ≡ Some job → last_job i (j ∷ jobs) ≡ Some job
last_tail i j jobs job e = ap (λ o. or_else o (cond (eqb j.task i) (Some j) None)) e

-- a job with none of its task behind it is the last
last_here : (j : Job) (jobs : List Job) → last_job j.task jobs ≡ None → last_job j.task (j ∷ jobs) ≡ Some j
last_here j jobs e = ap (λ o. or_else o (cond (eqb j.task j.task) (Some j) None)) e ∙ ap (λ b. cond b (Some j) None) (eq-eqb j.task j.task refl)

-- ---- rising times

rising_widen : (start end end' : ℕ) (times : List ℕ) → end ≤ end' → Rising start end times → Rising start end' times
rising_widen start end end' [] h r = tt
rising_widen start end end' (t ∷ times) h r = (r.0, omega (arith, r.1), rising_widen (suc t) end end' times h r.2)

rising_push : (start t : ℕ) (times : List ℕ) → start ≤ t → Rising start t times → Rising start (suc t) (times ++ t ∷ [])
rising_push start t [] h r = (h, omega arith, tt)
rising_push start t (s ∷ times) h r = (r.0, omega (arith, r.1), rising_push (suc s) t times r.1 r.2)

-- ---- what holds of every job

-- It has been released, and it was held at rising times in its window and in the past.
pub record Fine (o : Opening) (time : ℕ) (job : Job) : Type 0 where
  pub began : o.unit * job.release ≤ time
  pub window : Rising (o.unit * job.release) (o.unit * job.deadline) job.held
  pub past : Rising (o.unit * job.release) time job.held

-- Its deadline has come, and it was held for its length.
abbrev pub Complete : Opening → ℕ → Job → Type 0
Complete o time job = (o.unit * job.deadline ≤ time) × (length job.held ≡ length_of o job)

-- Every job is fine, and complete if its task has a later one.
abbrev pub AllFine : Opening → ℕ → List Job → Type 0
AllFine o time [] = Unit {0}
AllFine o time (job ∷ jobs) = Fine o time job × (is_some (last_job job.task jobs) ≡ true → Complete o time job) × AllFine o time jobs

-- a job is added whose task's last one is complete
pub fine_push : (o : Opening) (time : ℕ) (jobs : List Job) (job : Job) → AllFine o time jobs → Fine o time job
    → ((j : Job) → last_job job.task jobs ≡ Some j → Complete o time j) → AllFine o time (jobs ++ job ∷ [])
fine_push o time [] job f g c = (g, (λ e. let z : ◌≡◌ {A = ℕ} 0 1 = cc in absurd (omega arith)), tt)
fine_push o time (j ∷ jobs) job f g c =
    (f.0, (λ e. go (last_job j.task jobs) refl (sym (ap is_some (last_push j.task jobs job)) ∙ e)), fine_push o time jobs job f.2 g (λ q e. c q (last_tail job.task j jobs q e)))
  where
    new : (b : Bool) → eqb job.task j.task ≡ b → last_job j.task jobs ≡ None → is_some (cond b (Some job) None) ≡ true → Complete o time j
    new true t n e = c j (ap (λ i. last_job i (j ∷ jobs)) (eqb-true _ _ t) ∙ last_here j jobs n)
    new false t n e = let z : ◌≡◌ {A = ℕ} 0 1 = cc in absurd (omega arith)

    go : (x : Option Job) → last_job j.task jobs ≡ x → is_some (cond (eqb job.task j.task) (Some job) (last_job j.task jobs)) ≡ true → Complete o time j
    go None n e = new (eqb job.task j.task) refl n (sym (ap (λ x. is_some (cond (eqb job.task j.task) (Some job) x)) n) ∙ e)
    go (Some q) n e = f.1 (ap is_some n)

fine_later : (o : Opening) (time : ℕ) (job : Job) → Fine o time job → Fine o (suc time) job
fine_later o time job f = record { began = omega (arith, f.began); window = f.window; past = rising_widen _ time (suc time) job.held (omega arith) f.past }

fine_held : (o : Opening) (time : ℕ) (job : Job) → Fine o time job → time < o.unit * job.deadline → Fine o (suc time) (at_time time job)
fine_held o time job f h =
    let r : Rising (o.unit * job.release) (suc time) (job.held ++ time ∷ []) = rising_push (o.unit * job.release) time job.held f.began f.past in
    record { began = omega (arith, f.began); window = rising_widen _ (suc time) (o.unit * job.deadline) (job.held ++ time ∷ []) h r; past = r }

some_held : (b : Bool) (t : ℕ) (x : Option Job) → is_some (held_if b t x) ≡ is_some x
some_held b t None = refl
some_held b t (Some job) = refl

-- a tick is held whose tasks have a last job that is not yet due
pub fine_hold : (o : Opening) (time : ℕ) (tasks : List ℕ) (jobs : List Job) → AllFine o time jobs
    → ((i : ℕ) (job : Job) → member i tasks ≡ true → last_job i jobs ≡ Some job → time < o.unit * job.deadline) → AllFine o (suc time) (hold time tasks jobs)
fine_hold o time tasks [] f d = tt
fine_hold o time tasks (j ∷ jobs) f d =
    (one last refl, (λ e. whole last refl (sym (some_later last) ∙ e)), fine_hold o time tasks jobs f.2 (λ i q m e. d i q m (last_tail i j jobs q e)))
  where
    last : Bool
    last = member j.task tasks && not (is_some (last_job j.task jobs))

    none : (x : Option Job) → not (is_some x) ≡ true → x ≡ None
    none None e = refl
    none (Some q) e = let z : ◌≡◌ {A = ℕ} 0 1 = cc in absurd (omega arith)

    one : (b : Bool) → last ≡ b → Fine o (suc time) (cond b (at_time time j) j)
    one true e =
        let (m, n) = and_parts (member j.task tasks) (not (is_some (last_job j.task jobs))) e in
        fine_held o time j f.0 (d j.task j m (last_here j jobs (none (last_job j.task jobs) n)))
    one false e = fine_later o time j f.0

    some_later : (b : Bool) → is_some (last_job (cond b (at_time time j) j).task (hold time tasks jobs)) ≡ is_some (last_job j.task jobs)
    some_later b =
        ap (λ i. is_some (last_job i (hold time tasks jobs))) (task_held b time j)
        ∙ ap is_some (last_hold time tasks j.task jobs)
        ∙ some_held (member j.task tasks) time (last_job j.task jobs)

    whole : (b : Bool) → last ≡ b → is_some (last_job j.task jobs) ≡ true → Complete o (suc time) (cond b (at_time time j) j)
    whole true e h =
        let (m, n) = and_parts (member j.task tasks) (not (is_some (last_job j.task jobs))) e in
        absurd (both_ways _ (not-true _ n) h)
    whole false e h = (omega (arith, (f.1 h).0), (f.1 h).1)

-- every job is served, if the last ones are held for their length when they are due
pub all_served : (o : Opening) (time : ℕ) (jobs : List Job) → AllFine o time jobs
    → ((i : ℕ) (job : Job) → last_job i jobs ≡ Some job → o.unit * job.deadline ≤ time → length job.held ≡ length_of o job) → AllByRecursion (Served o time) jobs
all_served o time [] f d = tt
all_served o time (j ∷ jobs) f d = (record { in_window = f.0.window; in_full = full (last_job j.task jobs) refl }, all_served o time jobs f.2 (λ i q e. d i q (last_tail i j jobs q e)))
  where
    full : (x : Option Job) → last_job j.task jobs ≡ x → o.unit * j.deadline ≤ time → length j.held ≡ length_of o j
    full None n = d j.task j (last_here j jobs n)
    full (Some q) n = λ h. (f.1 (ap is_some n)).1
