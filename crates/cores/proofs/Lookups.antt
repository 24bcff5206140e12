-- Where a list names a task. Assumes nothing.
use Rattle.std.proofs.Common.{◌≡◌, ℕ, ◌+◌, ◌<◌, ◌-◌, ◌≤◌, Bool, true, eqb, List, length, take, drop, get_or, Some, None, Option, sym, ap, ◌∙◌, inl, inr, arith}
use Rattle.std.specs.List.{position, position_or_len}
use Rattle.std.proofs.lemmas.Bool.{both_ways, cases_Bool, cases_lt, eq-eqb, eqb-true, cond-true, lt-ltb}
use Rattle.std.proofs.lemmas.List.Quantifiers.{position-Some}
use Rattle.std.proofs.lemmas.List.Sums.{fails_before_first}
use Rattle.std.proofs.lemmas.Grind.{common_steps}
use Rattle.cores.specs.Counting.{LookedUp}
use Rattle.cores.specs.Naming.{member}
use Rattle.cores.proofs.Members.{at_member, in_no_part, member_at, member_drop, member_take}

some_not_none : (o : Option ℕ) (k : ℕ) → o ≡ Some k → o ≡ None → ⊥
some_not_none o k e f = let z : ◌≡◌ {A = ℕ} 0 1 = cc in omega arith

pub found : (named : List ℕ) (t : ℕ) (r : Option ℕ) → r ≡ position (λ u. eqb u t) named → LookedUp named t r
found named t (Some k) e =
    let at = position-Some (λ u. eqb u t) named k 0 (sym e) in
    (at.0, ap (λ u. member u named) (sym (eqb-true (get_or named k 0) t at.1)) ∙ at_member named k at.0)
found named t None e = elim (cases_Bool (member t named)) [
  | inl m ↦
      let at = member_at named t m in
      let test : ℕ → Bool = λ u. eqb u t in
      elim (cases_lt (position_or_len test named) (length named)) [
        | inl low ↦ absurd (some_not_none (position test named) (position_or_len test named) (cond-true _ _ _ (lt-ltb _ _ low)) (sym e))
        | inr high ↦ absurd (both_ways (eqb (get_or named at.0 0) t) (fails_before_first test named at.0 0 (omega (arith, at.1))) (eq-eqb _ _ at.2))
      ]
  | inr out ↦ out
]

module _ (named : List ℕ) (t from : ℕ) (h : from ≤ length named) where
  -- what stands from a place on
  abbrev rest : List ℕ
  rest = take (length named - from) (drop from named)

  rest_is : rest ≡ drop from named
  rest_is = grind (arith, common_steps)

  named_behind : member t rest ≡ true → member t named ≡ true
  named_behind m = member_drop from named t (ap (member t) (sym rest_is) ∙ m)

  pub behind : (k : ℕ) → Some k ≡ position (λ u. eqb u t) rest → (from + k < length named) × (member t named ≡ true)
  behind k e =
      let there = found rest t (Some k) e in
      let low : k < length rest = there.0 in
      (grind (arith, common_steps), named_behind there.1)

  -- and else before it
  pub before : (r : Option ℕ) → None ≡ position (λ u. eqb u t) rest → r ≡ position (λ u. eqb u t) (take from named) → LookedUp named t r
  before r none e = named_in r (found (take from named) t r e)
    where
      named_in : (r : Option ℕ) → LookedUp (take from named) t r → LookedUp named t r
      named_in (Some k) there =
          let low : k < length (take from named) = there.0 in
          (grind (arith, common_steps), member_take from named t there.1)
      named_in None out = in_no_part from named t (ap (member t) (sym rest_is) ∙ found rest t None none) out
