-- The lowest free core. Assumes nothing.
use Rattle.std.proofs.Common.{◌≡◌, ℕ, zero, suc, ◌+◌, ◌<◌, ◌≤◌, cond, [], ◌∷◌, length, get_or, take, min, Some, None, Option, sym, refl, ◌∙◌, inl, inr, arith}
use Rattle.std.specs.List.{position, position_or_len}
use Rattle.std.proofs.lemmas.Bool.{cases_lt, cond-true, cond-false, lt-ltb, le-ltb}
use Rattle.std.proofs.lemmas.List.{length-take-le}
use Rattle.std.proofs.lemmas.List.Recursion.{is_position_or_len}
use Rattle.cores.specs.Placing.{Slots, first_free, is_none}

pub some_not_none : (o : Option ℕ) (t : ℕ) → o ≡ Some t → o ≡ None → ⊥
some_not_none o t e f = let z : ◌≡◌ {A = ℕ} 0 1 = cc in omega arith

-- it is free, if there is one
pub first_free_gap : (slots : Slots) → get_or slots (first_free slots) None ≡ None
first_free_gap [] = refl
first_free_gap (None ∷ slots) = refl
first_free_gap (Some t ∷ slots) = first_free_gap slots

-- among the first n cores
first_free_take : (n : ℕ) (slots : Slots) → first_free (take n slots) ≡ min n (first_free slots)
first_free_take zero slots = omega arith
first_free_take (suc n) [] = omega arith
first_free_take (suc n) (None ∷ slots) = omega arith
first_free_take (suc n) (Some t ∷ slots) = omega (arith, first_free_take n slots)

-- it is the first place at which a core is free
first_place_is : (slots : Slots) → first_free slots ≡ position_or_len is_none slots
first_place_is = is_position_or_len first_free is_none refl (λ o slots. elim o as (λ o. first_free (o ∷ slots) ≡ cond (is_none o) 0 (1 + first_free slots)) [ None ↦ refl | Some t ↦ omega arith ])

module _ (slots : Slots) (n : ℕ) (room : n ≤ length slots) where
  abbrev place : ℕ
  place = position_or_len is_none (take n slots)

  place_is : place ≡ min n (first_free slots)
  place_is = sym (first_place_is (take n slots)) ∙ first_free_take n slots

  pub free_found : (c : ℕ) → position is_none (take n slots) ≡ Some c → (c < n) × (first_free slots ≡ c)
  free_found c e = elim (cases_lt place (length (take n slots))) [
    | inl low ↦
        let here : position is_none (take n slots) ≡ Some place = cond-true _ _ _ (lt-ltb place (length (take n slots)) low) in
        let same : place ≡ c = cc in
        (omega (arith, length-take-le n slots room, place_is), omega (arith, length-take-le n slots room, place_is))
    | inr high ↦ absurd (some_not_none _ c e (cond-false _ _ _ (le-ltb place (length (take n slots)) high)))
  ]

  pub free_none : position is_none (take n slots) ≡ None → n ≤ first_free slots
  free_none e = elim (cases_lt place (length (take n slots))) [
    | inl low ↦ absurd (some_not_none _ place (cond-true _ _ _ (lt-ltb place (length (take n slots)) low)) e)
    | inr high ↦ omega (arith, length-take-le n slots room, place_is)
  ]
