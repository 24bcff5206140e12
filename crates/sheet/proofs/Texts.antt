-- Texts of digits and of name bytes. Assumes nothing.
use Rattle.std.proofs.Common.{◌≡◌, ℕ, ◌+◌, ◌-◌, ◌*◌, ◌<◌, ◌≤◌, Bool, true, false, cond, not, ◌&&◌, ◌||◌, eqb, ltb, leb, List, [], ◌∷◌, length, get_or, drop, Some, None, Option, Ok, Err, Result, refl, sym, ap, ◌∙◌, inl, inr, arith, rules}
use Rattle.std.proofs.lemmas.Bool.{and_parts, and_from, and_cases, or_left, or_right, cond-true, cond-false, le-leb, lt-leb, lt-ltb, ltb-false, eq-eqb, eqb-false, not_from_false}
use Rattle.std.proofs.lemmas.List.{at_drop_more}
use Rattle.std.proofs.lemmas.Str.Parse.{IsNumeralModel, numerals_by_fold, digits_value_short}
use Rattle.std.specs.List.{list_all}
use Rattle.std.specs.Result.{OkIff, result_ok}
use Rattle.sheet.specs.Forms.{digit, capital, name_byte, value, value_on, written_well, is_name}

pub all_weaker : (p q : ℕ → Bool) → ((b : ℕ) → p b ≡ true → q b ≡ true) → (l : List ℕ) → list_all p l ≡ true → list_all q l ≡ true
all_weaker p q f [] e = refl
all_weaker p q f (b ∷ l) e = let both = and_parts (p b) (list_all p l) e in and_from (q b) (list_all q l) (f b both.0) (all_weaker p q f l both.1)

pub digits_name : (bs : List ℕ) → list_all digit bs ≡ true → list_all name_byte bs ≡ true
digits_name = all_weaker digit name_byte (λ b. or_left (digit b) (capital b))

pub short_name : (bs : List ℕ) → 0 < length bs → list_all name_byte bs ≡ true → leb (length bs) 12 ≡ is_name bs
short_name bs some letters =
    sym (ap (λ b. b && (ltb 0 (length bs) && leb (length bs) 12)) letters ∙ ap (λ b. b && leb (length bs) 12) (lt-ltb 0 (length bs) some))

pub own : IsNumeralModel (λ ds. list_all digit ds ≡ true) (value_on 0)
own = numerals_by_fold _ (search rules) value_on (search rules)

pub value_grows : (v : ℕ) (bs : List ℕ) → v ≤ value_on v bs
value_grows v [] = omega arith
value_grows v (b ∷ bs) = let more = value_grows (v * 10 + (b - 48)) bs in omega arith

-- what a few digits write, on the way too
pub few_digits : (v : ℕ) (bs : List ℕ) (i : ℕ) → list_all digit bs ≡ true → length bs ≤ 5 → i < length bs → value_on v (drop i bs) ≡ value bs →
    v * 10 + (get_or bs i 0 - 48) < 100000
few_digits v bs i digits short h same =
    let more = at_drop_more (value_on v) bs i 0 h in
    let grows = value_grows (v * 10 + (get_or bs i 0 - 48)) (drop (i + 1) bs) in
    let low : value bs < 100000 = digits_value_short own bs 5 digits short in
    omega arith

-- what the digits write, if it is not too high
abbrev pub capped : ℕ → Option ℕ
capped n = cond (leb n 65535) (Some n) None

pub too_high : (n : ℕ) → 65535 < n → None ≡ capped n
too_high n h = sym (cond-false (leb n 65535) (Some n) None (lt-leb n 65535 h))

pub fits_capped : {E : Type 0} (n : ℕ) (r : Result ℕ E) → OkIff r (n < 65536) n → result_ok r ≡ capped n
fits_capped n (Ok m) (fits, e) = ap Some e ∙ sym (cond-true (leb n 65535) (Some n) None (le-leb n 65535 (omega arith)))
fits_capped n (Err f) none = too_high n (omega (arith, none))

-- a few digits are written well where no zero stands before others
pub unpadded_well : (bs : List ℕ) → list_all digit bs ≡ true → eqb (length bs) 0 ≡ false → length bs ≤ 5 →
    (ltb 1 (length bs) && eqb (get_or bs 0 0) 48) ≡ false → written_well bs ≡ true
unpadded_well bs digits some short plain =
    let filled : 0 < length bs = let none = eqb-false (length bs) 0 some in omega (arith, none) in
    let leading : (eqb (length bs) 1 || not (eqb (get_or bs 0 0) 48)) ≡ true =
    elim (and_cases (ltb 1 (length bs)) (eqb (get_or bs 0 0) 48) plain) [
      | inl one ↦ or_left _ _ (eq-eqb (length bs) 1 (let most = ltb-false 1 (length bs) one in omega arith))
      | inr plain ↦ or_right _ _ (not_from_false _ plain)
    ] in
    and_from _ _ digits (and_from _ _ (lt-ltb _ _ filled) (and_from _ _ (le-leb _ _ short) leading))
