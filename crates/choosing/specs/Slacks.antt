-- Slack: that its parts fit 64 bits, and how two clients compare without negative numbers. Assumes nothing.
use Rattle.std.specs.Prelude.{◌≡◌, ℕ, ◌+◌, ◌*◌, ◌^◌, ◌<◌, ◌≤◌, false, ℤ, pos, ◌+ℤ◌, ◌-ℤ◌, ◌*ℤ◌, FitsSigned}
use Rattle.std.proofs.Common.{ap, ap₂, ◌∙◌, mul-add, mul-le-mul, arith, to_z, of_z}
use borrow.Author.Differences.{ints, up, down, product_is, lt-false}
use Rattle.std.specs.Int.{w64}
use Rattle.std.proofs.lemmas.Int.{to_z-of_z}
use Rattle.choosing.specs.declared.share.Share.{Share}
use Rattle.choosing.specs.Rules.{slack, tighter}

-- a * (m - n), read as the difference of two numbers
scaled : (a m n : ℕ) → up (pos a *ℤ (pos m -ℤ pos n)) + a * n ≡ down (pos a *ℤ (pos m -ℤ pos n)) + a * m
scaled a m n =
    let z : ℤ = pos m -ℤ pos n in
    let even : up z + n ≡ down z + m = omega (arith, ints) in
    omega (arith, product_is (pos a) z, mul-add a (up z) n, mul-add a (down z) m, ap (λ x. a * x) even)

-- ---- e + a * (m - d) - x, step by step in 64 bits
pub record Small (e a m d x : ℕ) : Type 0 where
  pub left : e < 2 ^ 32
  pub rate : a < 2 ^ 16
  pub client_deadline : m < 2 ^ 32
  pub deadline : d < 2 ^ 32
  pub client_left : x < 2 ^ 32

-- what a step gives, as the code has it: a number of 64 bits is read back from its bits
abbrev pub kept : ℤ → ℤ
kept z = to_z w64 (of_z w64 z)

abbrev pub product : ℕ → ℕ → ℕ → ℤ
product a m d = kept (pos a) *ℤ kept (kept (pos m) -ℤ kept (pos d))

abbrev pub spare : ℕ → ℕ → ℕ → ℕ → ℕ → ℤ
spare e a m d x = kept (kept (pos e) +ℤ kept (product a m d)) -ℤ kept (pos x)

below : (a n : ℕ) → a < 2 ^ 16 → n < 2 ^ 32 → a * n ≤ 2 ^ 16 * 2 ^ 32
below a n h k = mul-le-mul {n₁ = a} {m₁ = n} {n₂ = 2 ^ 16} {m₂ = 2 ^ 32} (omega arith) (omega arith)

module _ (e a m d x : ℕ) (b : Small e a m d x) where
  product_at : product a m d ≡ pos a *ℤ (pos m -ℤ pos d)
  product_at =
      let rate_is : kept (pos a) ≡ pos a = omega (arith, ints) in
      let frames_is : kept (kept (pos m) -ℤ kept (pos d)) ≡ pos m -ℤ pos d = omega (arith, ints) in
      ap₂ ◌*ℤ◌ rate_is frames_is

  product_fits : FitsSigned w64 (product a m d)
  product_fits = rw product_at (omega (arith, ints, scaled a m d, below a m b.rate b.client_deadline, below a d b.rate b.deadline))

  spare_is : spare e a m d x ≡ pos e +ℤ pos a *ℤ (pos m -ℤ pos d) -ℤ pos x
  spare_is = omega (arith, ints, to_z-of_z w64 _ product_fits ∙ product_at, scaled a m d, below a m b.rate b.client_deadline, below a d b.rate b.deadline)

  pub spare_fits : FitsSigned w64 (spare e a m d x)
  spare_fits = rw spare_is (omega (arith, ints, scaled a m d, below a m b.rate b.client_deadline, below a d b.rate b.deadline))

  pub spare_kept : kept (spare e a m d x) ≡ pos e +ℤ pos a *ℤ (pos m -ℤ pos d) -ℤ pos x
  spare_kept = to_z-of_z w64 _ spare_fits ∙ spare_is

-- ---- two clients compared: the server's left and deadline do not count
slack_is : (s c : Share) → up (slack s c) + s.rate * s.deadline + c.left ≡ down (slack s c) + s.left + s.rate * c.deadline
unfolding slack
slack_is s c = omega (arith, ints, scaled s.rate c.deadline s.deadline)

pub tighter_false : (s x y : Share) → tighter s x y ≡ false → s.rate * y.deadline + x.left ≤ s.rate * x.deadline + y.left
tighter_false s x y e = omega (arith, lt-false (slack s x) (slack s y) e, slack_is s x, slack_is s y)

pub same_slack : (s x y : Share) → tighter s x y ≡ false → tighter s y x ≡ false → slack s x ≡ slack s y
same_slack s x y e f = grind (arith, ints)
