-- Sums and counts over the numbers below n, and lists of them. A reader of the contracts has to believe this file.
use Rattle.std.specs.Prelude.{ℕ, zero, suc, ◌+◌, Bool, true, false, cond, List, [], ◌∷◌}

-- The sum of g 0, g 1 and so on, n numbers in all.
abbrev pub sum_to : ℕ → (ℕ → ℕ) → ℕ
sum_to zero g = 0
sum_to (suc n) g = g 0 + sum_to n (λ j. g (suc j))

-- A test as a number: 1 if it holds.
abbrev pub bit : Bool → ℕ
bit true = 1
bit false = 0

-- How many of the numbers below n pass a test.
abbrev pub count : ℕ → (ℕ → Bool) → ℕ
count n test = sum_to n (λ i. bit (test i))

-- The numbers from i on, n of them, that pass a test.
abbrev pub passing : ℕ → ℕ → (ℕ → Bool) → List ℕ
passing i zero test = []
passing i (suc n) test = cond (test i) (i ∷ passing (suc i) n test) (passing (suc i) n test)
