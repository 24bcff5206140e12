-- The free ones of the first n cores. Assumes nothing.
use Rattle.std.proofs.Common.{◌≡◌, ℕ, zero, suc, ◌<◌, ◌≤◌, [], ◌∷◌, length, get_or, set, replicate, Some, None, refl, ap, arith}
use Rattle.cores.specs.Placing.{Slots, first_free}
use Rattle.cores.proofs.Frees.{some_not_none}

abbrev pub gaps : ℕ → Slots → ℕ
gaps zero slots = 0
gaps (suc n) [] = 0
gaps (suc n) (None ∷ slots) = suc (gaps n slots)
gaps (suc n) (Some t ∷ slots) = gaps n slots

pub gaps_blank : (n m : ℕ) → n ≤ m → gaps n (replicate m None) ≡ n
gaps_blank zero m h = refl
gaps_blank (suc n) zero h = absurd (omega arith)
gaps_blank (suc n) (suc m) h = ap suc (gaps_blank n m (omega arith))

pub gaps_set : (n : ℕ) (slots : Slots) (c t : ℕ) → c < n → c < length slots → get_or slots c None ≡ None → suc (gaps n (set slots c (Some t))) ≡ gaps n slots
gaps_set zero slots c t h k e = absurd (omega arith)
gaps_set (suc n) [] c t h k e = absurd (omega arith)
gaps_set (suc n) (None ∷ slots) zero t h k e = refl
gaps_set (suc n) (Some u ∷ slots) zero t h k e = absurd (some_not_none (Some u) u refl e)
gaps_set (suc n) (None ∷ slots) (suc c) t h k e = ap suc (gaps_set n slots c t (omega arith) (omega arith) e)
gaps_set (suc n) (Some u ∷ slots) (suc c) t h k e = gaps_set n slots c t (omega arith) (omega arith) e

pub gaps_full : (n : ℕ) (slots : Slots) → n ≤ first_free slots → gaps n slots ≡ 0
gaps_full zero slots h = refl
gaps_full (suc n) [] h = refl
gaps_full (suc n) (None ∷ slots) h = absurd (omega arith)
gaps_full (suc n) (Some t ∷ slots) h = gaps_full n slots (omega arith)

pub gaps_busy : (n : ℕ) (slots : Slots) (c : ℕ) → gaps n slots ≡ 0 → c < n → c < length slots → (t : ℕ) × (get_or slots c None ≡ Some t)
gaps_busy zero slots c g h k = absurd (omega arith)
gaps_busy (suc n) [] c g h k = absurd (omega arith)
gaps_busy (suc n) (None ∷ slots) c g h k = absurd (omega arith)
gaps_busy (suc n) (Some t ∷ slots) zero g h k = (t, refl)
gaps_busy (suc n) (Some t ∷ slots) (suc c) g h k = gaps_busy n slots c g (omega arith) (omega arith)
