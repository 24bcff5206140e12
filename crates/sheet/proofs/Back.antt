-- What is written, cut again: lines, fields and numbers come back. Assumes nothing.
use Rattle.std.proofs.Common.{◌≡◌, ℕ, ◌^◌, ◌<◌, ◌≤◌, Bool, true, not, ◌||◌, eqb, leb, List, [], ◌∷◌, ◌++◌, length, get_or, Some, None, decimal, refl, ap, ◌∙◌, inl, inr, arith}
use Rattle.std.proofs.lemmas.Fmt.{digits_decimal, digits_value-decimal, length-decimal-le, decimal_nonempty, first_decimal, decimal_digit}
use Rattle.std.proofs.lemmas.Bool.{cond-true, cond-false, and_parts, and_from, or_left, or_right, eq-eqb, le-leb, lt-ltb, ne_eqb, not-true, not_from_false, cases_eq}
use Rattle.std.proofs.lemmas.Bool.Decides.{nat_tests}
use Rattle.std.proofs.lemmas.List.Folds.{list_all-append}
use Rattle.std.specs.List.{AllByRecursion, list_all}
use Rattle.sheet.specs.Forms.{digit, name_byte, value, written_well, is_number, is_period, number, period}
use Rattle.sheet.specs.Parts.{onto, parts, lines}
use Rattle.sheet.specs.Written.{ended}
use Rattle.sheet.proofs.Texts.{own, all_weaker}

-- a text without the byte `s`
abbrev pub Lacks : ℕ → List ℕ → Type 0
Lacks s l = list_all (λ b. not (eqb b s)) l ≡ true

pub all_join : (p : ℕ → Bool) (k l : List ℕ) → list_all p k ≡ true → list_all p l ≡ true → list_all p (k ++ l) ≡ true
all_join p k l e f = list_all-append p k l ∙ and_from (list_all p k) (list_all p l) e f

module _ (s : ℕ) (end : List (List ℕ)) where
  pub cut_off : (f rest : List ℕ) → Lacks s f → parts s end (f ++ s ∷ rest) ≡ f ∷ parts s end rest
  cut_off [] rest e = cond-true (eqb s s) ([] ∷ parts s end rest) (onto s (parts s end rest)) (eq-eqb s s refl)
  cut_off (b ∷ f) rest e =
      let both = and_parts (not (eqb b s)) (list_all (λ b. not (eqb b s)) f) e in
      cond-false (eqb b s) ([] ∷ parts s end (f ++ s ∷ rest)) (onto b (parts s end (f ++ s ∷ rest))) (not-true (eqb b s) both.0) ∙ ap (onto b) (cut_off f rest both.1)

pub cut_last : (s : ℕ) (f : List ℕ) → Lacks s f → parts s ([] ∷ []) f ≡ f ∷ []
cut_last s [] e = refl
cut_last s (b ∷ f) e =
    let both = and_parts (not (eqb b s)) (list_all (λ b. not (eqb b s)) f) e in
    cond-false (eqb b s) ([] ∷ parts s ([] ∷ []) f) (onto b (parts s ([] ∷ []) f)) (not-true (eqb b s) both.0) ∙ ap (onto b) (cut_last s f both.1)

pub lines_back : (ls : List (List ℕ)) → AllByRecursion (Lacks 10) ls → lines (ended ls) ≡ ls
lines_back [] h = refl
lines_back (l ∷ ls) h = cut_off 10 [] l (ended ls) h.0 ∙ ap (λ r. l ∷ r) (lines_back ls h.1)

module _ (n : ℕ) (small : n ≤ 65535) where
  big : n < 2 ^ 64
  big = omega arith

  pub decimal_digits : list_all digit (decimal n) ≡ true
  decimal_digits = digits_decimal own n big

  leading : (eqb (length (decimal n)) 1 || not (eqb (get_or (decimal n) 0 0) 48)) ≡ true
  leading =
      elim (cases_eq n 0) [
        | inl z ↦ or_left _ _ (eq-eqb (length (decimal n)) 1 (ap length (decimal_digit n (omega arith))))
        | inr h ↦ or_right _ _ (not_from_false _ (ne_eqb (get_or (decimal n) 0 0) 48 (λ e. let first = first_decimal n (omega arith) big in omega arith)))
      ]

  pub decimal_short : length (decimal n) ≤ 5
  decimal_short = length-decimal-le 5 n (omega arith) (omega arith) big

  value_back : value (decimal n) ≡ n
  value_back = digits_value-decimal own n big

  is_number_back : is_number (decimal n) ≡ true
  is_number_back =
      let v : value (decimal n) ≡ n = value_back in
      let well : written_well (decimal n) ≡ true =
      and_from _ _ decimal_digits (and_from _ _ (lt-ltb _ _ (decimal_nonempty n big)) (and_from _ _ (le-leb _ _ decimal_short) leading)) in
      and_from (written_well (decimal n)) (leb (value (decimal n)) 65535) well (le-leb _ _ (omega arith))

  pub number_back : number (decimal n) ≡ Some n
  number_back = cond-true (is_number (decimal n)) (Some (value (decimal n))) None is_number_back ∙ ap Some value_back

  pub period_back : 1 ≤ n → period (decimal n) ≡ Some n
  period_back h =
      let v : value (decimal n) ≡ n = value_back in
      let some : not (eqb (value (decimal n)) 0) ≡ true = not_from_false _ (ne_eqb (value (decimal n)) 0 (λ e. omega arith)) in
      cond-true (is_period (decimal n)) (Some (value (decimal n))) None (and_from (is_number (decimal n)) (not (eqb (value (decimal n)) 0)) is_number_back some) ∙ ap Some value_back

  pub decimal_lacks_comma : Lacks 44 (decimal n)
  decimal_lacks_comma = all_weaker digit (λ b. not (eqb b 44)) (λ b e. grind (arith, nat_tests)) (decimal n) decimal_digits

  pub decimal_lacks_feed : Lacks 10 (decimal n)
  decimal_lacks_feed = all_weaker digit (λ b. not (eqb b 10)) (λ b e. grind (arith, nat_tests)) (decimal n) decimal_digits

pub name_lacks_comma : (l : List ℕ) → list_all name_byte l ≡ true → Lacks 44 l
name_lacks_comma l e = all_weaker name_byte (λ b. not (eqb b 44)) (λ b e. grind (arith, nat_tests)) l e

pub name_lacks_feed : (l : List ℕ) → list_all name_byte l ≡ true → Lacks 10 l
name_lacks_feed l e = all_weaker name_byte (λ b. not (eqb b 10)) (λ b e. grind (arith, nat_tests)) l e
