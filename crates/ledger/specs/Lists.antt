-- The least of some numbers. A reader of the contracts has to believe this file.
use Rattle.std.specs.Prelude.{ℕ, zero, suc, Bool, cond}

-- The least number below n that passes a test, or n if none does.
abbrev pub least : ℕ → (ℕ → Bool) → ℕ
least zero test = 0
least (suc n) test = cond (test 0) 0 (suc (least n (λ i. test (suc i))))
