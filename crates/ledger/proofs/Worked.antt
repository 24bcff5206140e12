-- The worked histories, and why the wrong ones do not conform. Assumes nothing.
use Rattle.std.proofs.Common.{◌≡◌, ℕ, suc, ◌*◌, ◌<◌, ◌≤◌, false, List, [], ◌∷◌, length, sum, sym, refl, subst, inl, inr, arith}
use Rattle.std.proofs.ByRecursion.{All-get_or}
use Rattle.std.proofs.lemmas.Bool.{true≢false}
use Rattle.std.specs.List.{AllByRecursion}
use Rattle.packing.specs.declared.opening.OpeningRefusal.TheVariants.{Load, BadFrames}
use Rattle.packing.specs.declared.refusal.Refusal.TheVariants.{BadCores, BadUnit, BadTaskCount, BadRate, Overload}
use Rattle.packing.specs.Packing.{Within}
use Rattle.packing.specs.Openings.{OpeningAllowed}
use Rattle.packing.specs.Preferred.{first_fit_lawful}
use Rattle.choosing.specs.Lawfulness.{earliest_deadline_lawful}
use Rattle.cores.specs.Naming.{member, Different}
use Rattle.ledger.specs.Openings.{Granted, rate}
use Rattle.ledger.specs.Calls.{refused_for, named, number}
use Rattle.ledger.specs.Ledger.{Job, Ledger, left, FullTick, Served, Kept}
use Rattle.ledger.specs.Worked.{three_loops, one_loop, missed_deadline, idle_core, on_two_cores, past_its_share, granted_too_soon, refused_without_need, preemption_not_counted, left_off_by_one, not_stored, time_stands}
use Rattle.ledger.specs.Theorems.{Fails, AWorkedHistory, WrongHistoriesDoNotConform, ConformingIsNotEnough}

-- ---- the openings

allowed : (cores unit frames : ℕ) (sheet : List ℕ) → (1 ≤ cores) × (cores ≤ 16) → (1 ≤ unit) × (unit ≤ 1000) → (1 ≤ frames) × (frames ≤ 65535)
    → (1 ≤ length sheet) × (length sheet ≤ 64) → AllByRecursion (Within unit) sheet → sum sheet ≤ cores * unit → OpeningAllowed cores unit frames sheet
allowed cores unit frames sheet c u f t w s (Load BadCores) (inl h) = omega (arith, c.0)
allowed cores unit frames sheet c u f t w s (Load BadCores) (inr h) = omega (arith, c.1)
allowed cores unit frames sheet c u f t w s (Load BadUnit) (inl h) = omega (arith, u.0)
allowed cores unit frames sheet c u f t w s (Load BadUnit) (inr h) = omega (arith, u.1)
allowed cores unit frames sheet c u f t w s BadFrames (inl h) = omega (arith, f.0)
allowed cores unit frames sheet c u f t w s BadFrames (inr h) = omega (arith, f.1)
allowed cores unit frames sheet c u f t w s (Load BadTaskCount) (inl h) = omega (arith, t.0)
allowed cores unit frames sheet c u f t w s (Load BadTaskCount) (inr h) = omega (arith, t.1)
allowed cores unit frames sheet c u f t w s (Load (BadRate i)) (h, out) = out (All-get_or (Within unit) sheet i 0 h w)
allowed cores unit frames sheet c u f t w s (Load Overload) h = omega (arith, s)

two_is_not_three : ◌≡◌ {A = ℕ} 2 3 → ⊥
two_is_not_three e = omega arith

pub three_granted : Granted three_loops
three_granted = record {
  allowed = allowed 2 3 2 (2 ∷ 2 ∷ 2 ∷ []) (omega arith, omega arith) (omega arith, omega arith) (omega arith, omega arith) (omega arith, omega arith)
      ((omega arith, omega arith), ((omega arith, omega arith), ((omega arith, omega arith), tt))) (omega arith);
  fits = first_fit_lawful;
  chooses = earliest_deadline_lawful;
  planned = (refl, (λ roots. two_is_not_three roots.0), (refl, (refl, tt)));
}

one_granted : Granted one_loop
one_granted = record {
  allowed = allowed 1 2 1 (1 ∷ []) (omega arith, omega arith) (omega arith, omega arith) (omega arith, omega arith) (omega arith, omega arith) ((omega arith, omega arith), tt) (omega arith);
  fits = first_fit_lawful;
  chooses = earliest_deadline_lawful;
  planned = (refl, (refl, tt));
}

pub a_worked_history : AWorkedHistory
a_worked_history = ((three_granted, refl, refl), (one_granted, refl, refl))

-- ---- wrong histories

-- equal answers say the same
same_tasks : (xs ys : List ℕ) → named xs ≡ named ys → xs ≡ ys
same_tasks xs ys e = cc

same_number : (m n : ℕ) → number m ≡ number n → m ≡ n
same_number m n e = cc

-- a tick that is not refused names a full list
abbrev Ticks : Ledger → List ℕ → Type 0
Ticks l tasks = (others : List ℕ) × (named tasks ≡ named others) × FullTick three_loops l others

full : (l : Ledger) (tasks : List ℕ) → Ticks l tasks → FullTick three_loops l tasks
full l tasks (others, e, f) = subst (FullTick three_loops l) (sym (same_tasks tasks others e)) f

one_is_not_two : ◌≡◌ {A = ℕ} 1 2 → ⊥
one_is_not_two e = omega arith

zero_is_not : (n : ℕ) → ◌≡◌ {A = ℕ} 0 (suc n) → ⊥
zero_is_not n e = omega arith

three_has_come : 3 ≤ 3
three_has_come = omega arith

missed_deadline_fails : Fails missed_deadline
missed_deadline_fails c = zero_is_not 1 (c.2.2.2.2.2.2.served.0.in_full three_has_come)

idle_core_fails : Fails idle_core
idle_core_fails c = one_is_not_two (full _ (1 ∷ []) c.2.2.2.1).as_cores

on_two_cores_fails : Fails on_two_cores
on_two_cores_fails c = let d : Different (1 ∷ 1 ∷ []) = (full _ (1 ∷ 1 ∷ []) c.2.2.2.1).different in true≢false d.0

none_left : 1 ≤ 0 → ⊥
none_left h = omega arith

past_its_share_fails : Fails past_its_share
past_its_share_fails c = none_left (full _ (0 ∷ 2 ∷ []) c.2.2.2.2.2.1).with_left.0.1

granted_too_soon_fails : Fails granted_too_soon
granted_too_soon_fails c = let e : named (0 ∷ 1 ∷ []) ≡ refused_for 22 1 = c.2.1 in let z : ◌≡◌ {A = ℕ} 0 1 = cc in zero_is_not 0 z

refused_is_not_named : (tasks : List ℕ) → refused_for 22 0 ≡ named tasks → ⊥
refused_is_not_named tasks e = let z : ◌≡◌ {A = ℕ} 0 1 = cc in zero_is_not 0 z

refused_without_need_fails : Fails refused_without_need
refused_without_need_fails c = let (tasks, e, f) = c.2.2.2.1 in refused_is_not_named tasks e

preemption_not_counted_fails : Fails preemption_not_counted
preemption_not_counted_fails c = zero_is_not 0 (same_number 0 1 c.2.2.2.2.2.1)

four_is_not_three : ◌≡◌ {A = ℕ} 4 3 → ⊥
four_is_not_three e = omega arith

left_off_by_one_fails : Fails left_off_by_one
left_off_by_one_fails c = four_is_not_three (same_number 4 3 c.2.2.2.2.1)

not_stored_fails : Fails not_stored
not_stored_fails c = zero_is_not 0 (same_number 0 1 c.2.1)

time_stands_fails : Fails time_stands
time_stands_fails c = zero_is_not 0 (same_number 0 1 c.2.2.2.2.1)

pub wrong_histories_do_not_conform : WrongHistoriesDoNotConform
wrong_histories_do_not_conform = (
  missed_deadline_fails,
  idle_core_fails,
  on_two_cores_fails,
  past_its_share_fails,
  granted_too_soon_fails,
  refused_without_need_fails,
  preemption_not_counted_fails,
  left_off_by_one_fails,
  not_stored_fails,
  time_stands_fails,
)

-- ---- a history against the rule

-- the laws at a time, of the idle task's job and of the jobs after it
kept : (t : ℕ) (jobs : List Job) → AllByRecursion (Served one_loop t) jobs → Kept one_loop (record { time = t; jobs = jobs; unfinished = []; preemptions = 0 })
kept t jobs served = record { served = served; few_reductions = omega arith; few_preemptions = λ _. omega arith }

-- a job of either task that was not yet held, and one that was held once, at time t
unheld : (time i : ℕ) → time < 2 → Served one_loop time (record { task = i; release = 0; deadline = 1; held = [] })
unheld time i h = record { in_window = tt; in_full = λ come. absurd (omega arith) }

held_once : (time i t : ℕ) → t < 2 → rate one_loop i ≡ 1 → Served one_loop time (record { task = i; release = 0; deadline = 1; held = t ∷ [] })
held_once time i t h e = record { in_window = (omega arith, h, tt); in_full = λ come. omega (arith, e) }

-- a task with left has the only core
alone : (l : Ledger) (i : ℕ) → i < 2 → 1 ≤ left one_loop l.jobs i → FullTick one_loop l (i ∷ [])
alone l i b h = record { as_cores = refl; different = (refl, tt); with_left = ((b, h), tt) }

-- the tick names the loop
not_first : (tasks : List ℕ) → named (1 ∷ []) ≡ named tasks → member 1 tasks ≡ false → ⊥
not_first tasks e m = true≢false (subst (λ xs. member 1 xs ≡ false) (sym (same_tasks (1 ∷ []) tasks e)) m)

pub conforming_is_not_enough : ConformingIsNotEnough
conforming_is_not_enough = (
  (
    kept 0 _ (unheld 0 1 (omega arith), tt),
    refl,
    (
      kept 0 _ (unheld 0 1 (omega arith), (unheld 0 0 (omega arith), tt)),
      (1 ∷ [], refl, alone _ 1 (omega arith) (omega arith)),
      (
        kept 1 _ (held_once 1 1 0 (omega arith) refl, (unheld 1 0 (omega arith), tt)),
        (0 ∷ [], refl, alone _ 0 (omega arith) (omega arith)),
        kept 2 _ (held_once 2 1 0 (omega arith) refl, (held_once 2 0 1 (omega arith) refl, tt)),
      ),
    ),
  ),
  λ g. let (tasks, e, names) = g.1.0 in not_first tasks e (names.1 1),
)
