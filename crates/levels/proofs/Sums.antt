-- Sums over the numbers below n. Assumes nothing.
use Rattle.std.proofs.Common.{◌≡◌, ℕ, zero, suc, ◌+◌, ◌<◌, cond, eqb, refl, ap, arith}
use lib.Dec.{eqb-suc-suc, eqb-zero-suc, eqb-suc-zero}
use Rattle.levels.specs.Sums.{sum_to}

pub sum_ext : (n : ℕ) (g h : ℕ → ℕ) → ((j : ℕ) → j < n → g j ≡ h j) → sum_to n g ≡ sum_to n h
sum_ext zero g h e = refl
sum_ext (suc n) g h e = omega (arith, e 0 (omega arith), sum_ext n (λ j. g (suc j)) (λ j. h (suc j)) (λ j l. e (suc j) (omega arith)))

pub sum_add : (n : ℕ) (g h : ℕ → ℕ) → sum_to n (λ j. g j + h j) ≡ sum_to n g + sum_to n h
sum_add zero g h = refl
sum_add (suc n) g h = omega (arith, sum_add n (λ j. g (suc j)) (λ j. h (suc j)))

pub sum_zero : (n : ℕ) → sum_to n (λ j. 0) ≡ 0
sum_zero zero = refl
sum_zero (suc n) = omega (arith, sum_zero n)

-- A sum of which only the summand at k counts.
pub sum_one : (n k : ℕ) (g : ℕ → ℕ) → k < n → sum_to n (λ j. cond (eqb k j) (g j) 0) ≡ g k
sum_one zero k g h = absurd (omega arith)
sum_one (suc n) zero g h = omega (arith, sum_ext n (λ j. cond (eqb 0 (suc j)) (g (suc j)) 0) (λ j. 0) (λ j l. rw eqb-zero-suc refl), sum_zero n)
sum_one (suc n) (suc k) g h =
    omega (
      arith,
      ap (λ b. cond b (g 0) 0) (eqb-suc-zero k),
      sum_ext n (λ j. cond (eqb (suc k) (suc j)) (g (suc j)) 0) (λ j. cond (eqb k j) (g (suc j)) 0) (λ j l. rw eqb-suc-suc refl),
      sum_one n k (λ j. g (suc j)) (omega arith),
    )

pub sum_ones : (n : ℕ) → sum_to n (λ j. 1) ≡ n
sum_ones zero = refl
sum_ones (suc n) = omega (arith, sum_ones n)
