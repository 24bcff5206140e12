-- What never holds of a test and of an option. Assumes nothing.
use Rattle.std.proofs.Common.{◌≡◌, ℕ, true, false, Some, None, arith}

pub never_true : {A : Type 0} → false ≡ true → A
never_true e = let z : ◌≡◌ {A = ℕ} 0 1 = cc in absurd (omega arith)

pub never_some : {A : Type 0} (k : ℕ) → None ≡ Some k → A
never_some k e = let z : ◌≡◌ {A = ℕ} 0 1 = cc in absurd (omega arith)

pub same_some : {a b : ℕ} → Some a ≡ Some b → a ≡ b
same_some e = cc
