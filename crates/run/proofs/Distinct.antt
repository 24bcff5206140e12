-- Lists of different task numbers. Assumes nothing.
use Rattle.std.proofs.Common.{◌≡◌, ℕ, zero, suc, ◌<◌, ◌≤◌, true, not, ◌&&◌, ltb, List, [], ◌∷◌, map, length, get_or, take, refl, ap₂, arith}
use Rattle.std.specs.List.{AllByRecursion}
use Rattle.std.proofs.lemmas.Bool.{lt-ltb, ltb-true, and_from, and_parts, not-true, not_from_false}
use Rattle.cores.specs.Naming.{member, Different}
use Rattle.run.specs.declared.task.Task.{Task}
use Rattle.run.specs.Views.{blank_task}
use Rattle.run.specs.Keeping.{distinct_below}

pub distinct_from : (n : ℕ) (is : List ℕ) → Different is → AllByRecursion (λ i. i < n) is → distinct_below n is ≡ true
distinct_from n [] d a = refl
distinct_from n (i ∷ is) d a =
    and_from (ltb i n) (not (member i is) && distinct_below n is) (lt-ltb i n a.0)
    (and_from (not (member i is)) (distinct_below n is) (not_from_false (member i is) d.0) (distinct_from n is d.1 a.1))

pub distinct_to : (n : ℕ) (is : List ℕ) → distinct_below n is ≡ true → Different is × AllByRecursion (λ i. i < n) is
distinct_to n [] e = (tt, tt)
distinct_to n (i ∷ is) e =
    let (below, rest) = and_parts (ltb i n) (not (member i is) && distinct_below n is) e in
    let (new, more) = and_parts (not (member i is)) (distinct_below n is) rest in
    let (d, a) = distinct_to n is more in
    ((not-true (member i is) new, d), (ltb-true i n below, a))

-- Two tables that agree at each place, in what f reads of them.
pub same_by : {Y : Type 0} (f : Task → Y) (n : ℕ) (xs ys : List Task) → length xs ≡ length ys → ((i : ℕ) → f (get_or xs i blank_task) ≡ f (get_or ys i blank_task))
    → map f (take n xs) ≡ map f (take n ys)
same_by f zero xs ys l e = refl
same_by f (suc n) [] [] l e = refl
same_by f (suc n) [] (y ∷ ys) l e = absurd (omega arith)
same_by f (suc n) (x ∷ xs) [] l e = absurd (omega arith)
same_by f (suc n) (x ∷ xs) (y ∷ ys) l e = ap₂ (λ z zs. z ∷ zs) (e 0) (same_by f n xs ys (omega arith) (λ i. e (suc i)))

-- Two lists that agree at the first n places.
pub same_front : (n : ℕ) (xs ys : List ℕ) → n ≤ length xs → n ≤ length ys → ((k : ℕ) → k < n → get_or xs k 0 ≡ get_or ys k 0) → take n xs ≡ take n ys
same_front zero xs ys h l e = refl
same_front (suc n) [] ys h l e = absurd (omega arith)
same_front (suc n) (x ∷ xs) [] h l e = absurd (omega arith)
same_front (suc n) (x ∷ xs) (y ∷ ys) h l e = ap₂ (λ z zs. z ∷ zs) (e 0 (omega arith)) (same_front n xs ys (omega arith) (omega arith) (λ k m. e (suc k) (omega arith)))
