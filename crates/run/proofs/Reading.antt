-- The tables of a run, read place by place. Assumes nothing.
use Rattle.std.proofs.Common.{◌≡◌, ℕ, zero, suc, ◌+◌, ◌<◌, ◌≤◌, Bool, true, false, cond, ltb, not, List, [], ◌∷◌, map, length, get_or, take, Some, None, Ok, Err, Option, Result, unwrap_or, sym, refl, ap, ◌∙◌, inl, inr, arith}
use Rattle.std.proofs.lemmas.List.{length-take-le}
use Rattle.std.proofs.lemmas.Bool.{cases_lt, cond-true, cond-false, lt-leb, le-leb, lt-ltb, le-ltb}
use Rattle.std.proofs.lemmas.List.Sums.{prefix_len-le-length}
use Rattle.std.specs.List.{position_or_len}
use Rattle.ledger.specs.Answering.{awaited, lowest_awaited, first, task_refusals}
use Rattle.ledger.specs.Calls.{Answer, refused, number, truth}
use Rattle.ledger.specs.Scheduler.{refused_or}
use Rattle.ledger.specs.Lists.{least}
use Rattle.levels.specs.Items.{item_at}
use Rattle.levels.specs.Running.{task}
use Rattle.run.specs.declared.refusal.Refusal.{Refusal}
use Rattle.run.specs.declared.state.State.{State}
use Rattle.run.specs.declared.task.Task.{Task}
use Rattle.run.specs.Asked.{OfSheet}
use Rattle.run.specs.Keeping.{due, Phased}
use Rattle.run.specs.Phases.{is_awaited}
use Rattle.run.specs.Refusals.{told}
use Rattle.run.specs.Runs.{figures_of, number_told, truth_told}
use Rattle.run.specs.Views.{item_of, tasks_of, view, blank_task, task_at}

item_read : (n : ℕ) (ts : List Task) (i : ℕ) → i < n → item_at (map item_of (take n ts)) i ≡ item_of (get_or ts i blank_task)
item_read zero ts i h = absurd (omega arith)
item_read (suc n) [] i h = refl
item_read (suc n) (t ∷ ts) zero h = refl
item_read (suc n) (t ∷ ts) (suc i) h = item_read n ts i (omega arith)

pub item_is_task : (s : State) (i : ℕ) → i < s.count → item_at (tasks_of s) i ≡ item_of (task_at s i)
item_is_task s i h = item_read s.count s.tasks i h

-- A task of the sheet is marked as awaited exactly if the figures say so.
pub awaited_read : (s : State) → Phased s → (i : ℕ) → i < s.sheet → is_awaited (task_at s i).phase ≡ awaited (figures_of s) i
awaited_read s phased i h = phased i h ∙ ap (λ x. due s x.share.deadline) (sym (item_is_task s i (omega (arith, s.sheet_tasks))))

-- ---- the least number that passes a test

pub least_at : (n : ℕ) (test : ℕ → Bool) (i : ℕ) → i < n → ((k : ℕ) → k < i → test k ≡ false) → test i ≡ true → least n test ≡ i
least_at zero test i h before here = absurd (omega arith)
least_at (suc n) test zero h before here = cond-true (test 0) 0 (suc (least n (λ k. test (suc k)))) here
least_at (suc n) test (suc i) h before here =
    cond-false (test 0) 0 (suc (least n (λ k. test (suc k)))) (before 0 (omega arith))
    ∙ ap suc (least_at n (λ k. test (suc k)) i (omega arith) (λ k less. before (suc k) (omega arith)) here)

pub least_none : (n : ℕ) (test : ℕ → Bool) → ((k : ℕ) → k < n → test k ≡ false) → least n test ≡ n
least_none zero test none = refl
least_none (suc n) test none =
    cond-false (test 0) 0 (suc (least n (λ k. test (suc k)))) (none 0 (omega arith)) ∙ ap suc (least_none n (λ k. test (suc k)) (λ k less. none (suc k) (omega arith)))

-- ---- what a question reads

-- An answer about a task of the sheet is not refused,
pub told_of_known : (s : State) (i : ℕ) (answer : Answer) → i < s.sheet → answer ≡ refused_or (first (task_refusals (figures_of s) i)) answer
told_of_known s i answer h = ap (λ b. refused_or (cond b (Some (refused 12)) None) answer) (sym (lt-leb s.sheet i h))

-- and one about any other number is.
pub told_of_unknown : (s : State) (i : ℕ) (answer : Answer) → s.sheet ≤ i → refused 12 ≡ refused_or (first (task_refusals (figures_of s) i)) answer
told_of_unknown s i answer h = ap (λ b. refused_or (cond b (Some (refused 12)) None) answer) (sym (le-leb s.sheet i h))

pub share_read : (s : State) (i : ℕ) → i < s.sheet → (task_at s i).share ≡ task (view s) i
share_read s i h = ap (λ x. x.share) (sym (item_is_task s i (omega (arith, s.sheet_tasks))))

-- Both together, for a number or a truth that is told.
pub number_read : (s : State) (i n : ℕ) (r : Result ℕ Refusal) → OfSheet s i (λ m. m ≡ n) r → number_told r ≡ refused_or (first (task_refusals (figures_of s) i)) (number n)
number_read s i n (Ok m) h = ap number h.1 ∙ told_of_known s i (number n) h.0
number_read s i n (Err e) h = ap told h.1 ∙ told_of_unknown s i (number n) h.0

pub truth_read : (s : State) (i : ℕ) (b : Bool) (r : Result Bool Refusal) → OfSheet s i (λ c. c ≡ b) r → truth_told r ≡ refused_or (first (task_refusals (figures_of s) i)) (truth b)
truth_read s i b (Ok c) h = ap truth h.1 ∙ told_of_known s i (truth b) h.0
truth_read s i b (Err e) h = ap told h.1 ∙ told_of_unknown s i (truth b) h.0

-- The place of the first task of the sheet that is marked as awaited.
abbrev marked : Task → Bool
marked t = is_awaited t.phase

first_one : (b b' : Bool) (m n : ℕ) → b ≡ b' → m ≡ n → cond (not b) (1 + m) 0 ≡ cond b' 0 (suc n)
first_one b true m n e same = ap (λ c. cond (not c) (1 + m) 0) e
first_one b false m n e same = let more : 1 + m ≡ suc n = omega arith in ap (λ c. cond (not c) (1 + m) 0) e ∙ more

first_is_least : (n : ℕ) (ts : List Task) (test : ℕ → Bool) → n ≤ length ts → ((i : ℕ) → i < n → marked (get_or ts i blank_task) ≡ test i)
    → position_or_len marked (take n ts) ≡ least n test
first_is_least zero ts test h same = refl
first_is_least (suc n) [] test h same = absurd (omega arith)
first_is_least (suc n) (t ∷ ts) test h same =
    first_one (marked t) (test 0) _ _ (same 0 (omega arith)) (first_is_least n ts (λ i. test (suc i)) (omega arith) (λ i l. same (suc i) (omega arith)))

pub found_or_all : (p n : ℕ) → p ≤ n → unwrap_or (cond (ltb p n) (Some p) None) n ≡ p
found_or_all p n h = elim (cases_lt p n) [
  | inl less ↦ ap (λ o. unwrap_or o n) (cond-true (ltb p n) (Some p) None (lt-ltb p n less))
  | inr more ↦ ap (λ o. unwrap_or o n) (cond-false (ltb p n) (Some p) None (le-ltb p n more)) ∙ (omega arith)
]

pub lowest_read : (s : State) → length s.tasks ≡ 80 → Phased s → (r : Option ℕ) → r ≡ cond (ltb (position_or_len marked (take s.sheet s.tasks)) (length (take s.sheet s.tasks))) (Some (position_or_len marked (take s.sheet s.tasks))) None
    → unwrap_or r s.sheet ≡ lowest_awaited (figures_of s)
lowest_read s table phased r is =
    let all : s.sheet ≤ length s.tasks = omega (arith, s.few_tasks, s.sheet_tasks, table) in
    let size : length (take s.sheet s.tasks) ≡ s.sheet = length-take-le s.sheet s.tasks all in
    let few : position_or_len marked (take s.sheet s.tasks) ≤ s.sheet = omega (arith, size, prefix_len-le-length (λ t. not (marked t)) (take s.sheet s.tasks)) in
    ap (λ o. unwrap_or o s.sheet) (is ∙ ap (λ n. cond (ltb (position_or_len marked (take s.sheet s.tasks)) n) (Some (position_or_len marked (take s.sheet s.tasks))) None) size)
    ∙ found_or_all (position_or_len marked (take s.sheet s.tasks)) s.sheet few
    ∙ first_is_least s.sheet s.tasks (awaited (figures_of s)) all (λ i h. awaited_read s phased i h)
