-- What a field that is read as a number writes. Assumes nothing.
use Rattle.std.proofs.Common.{◌≡◌, ℕ, ◌^◌, ◌<◌, ◌≤◌, List, [], ◌∷◌, length, get_or, Some, None, Ok, Err, decimal, leb, Result, sym, ap, ◌∙◌, subst, inl, inr, arith}
use Rattle.std.proofs.lemmas.Fmt.{decimal_nonempty, decimal_digit, first_decimal, digits_decimal, digits_value-decimal, decimal-digits_value, decimal_injective}
use Rattle.std.proofs.lemmas.Str.Parse.{IsNumeralModel, numerals_by_value, tells_digits, not_in_digits, parse_plain}
use Rattle.std.proofs.lemmas.Bool.{cases_lt, le-leb, lt-leb}
use Rattle.std.specs.Bool.{then_some}
use Rattle.std.specs.Result.{OkIff, result_ok}
use Rattle.std.specs.Str.Parse.{AllDigits, digits_value, ParsesUnsigned}
use Rattle.trials.specs.Reading.{ReadsUpTo}

own : IsNumeralModel (AllDigits 10) (digits_value 10)
own = numerals_by_value (AllDigits 10) tells_digits

-- No number is written with a sign,
pub signed_is_none : (bs : List ℕ) → get_or bs 0 0 ≡ 43 → ReadsUpTo 4294967295 bs None
signed_is_none bs sign n few e = not_in_digits own (decimal n) 43 (digits_decimal own n (omega arith)) (λ h. omega arith) 0 (decimal_nonempty n (omega arith))
    (ap (λ ds. get_or ds 0 0) (sym e) ∙ sign)

-- nor with a zero in front of others.
pub padded_is_none : (bs : List ℕ) → get_or bs 0 0 ≡ 48 → 1 < length bs → ReadsUpTo 4294967295 bs None
padded_is_none bs pad long n few e = elim (cases_lt n 1) [
  | inl small ↦ let one : length (decimal n) ≡ 1 = ap length (decimal_digit n (omega arith)) in
      let same : length bs ≡ length (decimal n) = ap length e in absurd (omega arith)
  | inr large ↦ let above : 48 < get_or (decimal n) 0 0 = first_decimal n (omega arith) (omega arith) in
      let same : get_or bs 0 0 ≡ get_or (decimal n) 0 0 = ap (λ ds. get_or ds 0 0) e in absurd (omega arith)
]

pub empty_is_unsigned : (bs : List ℕ) → length bs ≤ 0 → get_or bs 0 0 ≡ 43 → ⊥
empty_is_unsigned [] none e = omega arith
empty_is_unsigned (b ∷ bs) none e = omega arith

-- Otherwise `parse` reads what is written.
pub parsed : {E : Type 0} (bs : List ℕ) (r : Result ℕ E) → ParsesUnsigned 32 10 bs r → (get_or bs 0 0 ≡ 43 → ⊥) → (get_or bs 0 0 ≡ 48 → length bs ≤ 1)
    → ReadsUpTo 4294967295 bs (result_ok r)
parsed {E} bs r reads plain short = from r (parse_plain own 32 bs r reads plain)
  where
    from : (r : Result ℕ E) → OkIff r (AllDigits 10 bs × (0 < length bs) × (digits_value 10 bs < 2 ^ 32)) (digits_value 10 bs) → ReadsUpTo 4294967295 bs (result_ok r)
    from (Ok n) (all, e) = let back : decimal (digits_value 10 bs) ≡ bs = decimal-digits_value own bs all.0 all.1 (λ h. let s : length bs ≤ 1 = short h in let p : 0 < length bs = all.1 in omega arith) (let b : digits_value 10 bs < 2 ^ 32 = all.2 in omega arith) in
        (let b : digits_value 10 bs < 2 ^ 32 = all.2 in omega arith, sym back ∙ ap decimal (sym e))
    from (Err e) none = λ n few w. none (subst (λ ds. AllDigits 10 ds × (0 < length ds) × (digits_value 10 ds < 2 ^ 32)) (sym w)
        (digits_decimal own n (omega arith), decimal_nonempty n (omega arith), let v : digits_value 10 (decimal n) ≡ n = digits_value-decimal own n (omega arith) in omega arith))

-- A number above the highest is none up to it.
pub above_is_none : (bs : List ℕ) (n most : ℕ) → ReadsUpTo 4294967295 bs (Some n) → most < n → most ≤ 65535 → ReadsUpTo most bs None
above_is_none bs n most told above low m few e =
    let bound : n ≤ 4294967295 = told.0 in
    let same : m ≡ n = decimal_injective m n (omega arith) (omega arith) (sym e ∙ told.1) in absurd (omega arith)

-- A number, unless it is above the highest.
pub up_to : (bs : List ℕ) (n most : ℕ) → ReadsUpTo 4294967295 bs (Some n) → most ≤ 65535 → ReadsUpTo most bs (then_some (leb n most) n)
up_to bs n most told low = elim (cases_lt most n) [
  | inl more ↦ subst (ReadsUpTo most bs) (sym (ap (λ b. then_some b n) (lt-leb n most more))) (above_is_none bs n most told more low)
  | inr few ↦ subst (ReadsUpTo most bs) (sym (ap (λ b. then_some b n) (le-leb n most few))) (few, told.1)
]
