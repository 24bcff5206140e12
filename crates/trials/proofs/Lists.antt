-- A core list that the tick writes. Assumes nothing.
use Rattle.std.proofs.Common.{◌≡◌, ℕ, List, ◌++◌, length, min, take, drop, replicate, sym, ap, ◌∙◌, subst, inl, inr, arith}
use lib.ListN.{length-replicate}
use Rattle.std.proofs.lemmas.List.{take_at, take_all, take-replicate}
use Rattle.std.proofs.lemmas.Bool.{cases_lt}
use Rattle.choosing.specs.Choosing.{Rule}
use Rattle.run.specs.declared.state.State.{State}
use Rattle.run.specs.Runs.{GrantedTick}

front : (k : ℕ) → take {A = ℕ} k (replicate 20 255) ≡ replicate (min k 20) 255
front k = elim (cases_lt k 20) [
  | inl few ↦ let low : min k 20 ≡ k = omega arith in take-replicate k 20 255 (omega arith) ∙ ap (λ n. replicate {A = ℕ} n 255) (sym low)
  | inr all ↦ let high : min k 20 ≡ 20 = omega arith in take_all k (replicate 20 255) all ∙ ap (λ n. replicate {A = ℕ} n 255) (sym high)
]

pub tick_on : (choose : Rule) (s s' : State) (k : ℕ) (old new : List ℕ) → old ≡ take k (replicate 20 255) → length new ≡ length old → GrantedTick choose s old s' new
    → (length (take (length old) (new ++ drop (length new) old)) ≡ min k 20) × GrantedTick choose s (replicate (min k 20) 255) s' (take (length old) (new ++ drop (length new) old))
tick_on choose s s' k old new is long granted =
    let all : old ≡ replicate (min k 20) 255 = is ∙ front k in
    let back : take (length old) (new ++ drop (length new) old) ≡ new = take_at new (drop (length new) old) (length old) long in
    let size : length old ≡ min k 20 = ap length all ∙ length-replicate (min k 20) 255 in
    (ap length back ∙ long ∙ size, subst (GrantedTick choose s (replicate (min k 20) 255) s') (sym back) (subst (λ l. GrantedTick choose s l s' new) all granted))
