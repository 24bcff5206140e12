-- The first part of a text, and the parts that are left. Assumes nothing.
use Rattle.std.proofs.Common.{◌≡◌, ℕ, suc, ◌+◌, ◌-◌, ◌<◌, ◌≤◌, Bool, true, false, cond, not, eqb, leb, ltb, List, [], ◌∷◌, length, get_or, take, drop, slice_range, Option, unwrap_or, sym, refl, ap, ◌∙◌, inl, inr, arith, length-drop}
use Rattle.std.proofs.lemmas.List.{drop-drop, drop-take, take_all, drop_more, length-take-le}
use Rattle.std.proofs.lemmas.Bool.{cond-true, cond-false, le-leb, lt-leb, lt-ltb, le-ltb, cases_lt}
use Rattle.std.proofs.lemmas.List.Sums.{prefix_len-le-length}
use Rattle.std.specs.List.{position, position_or_len}
use Rattle.sheet.specs.Parts.{onto, parts, lines, fields, fields_from}

-- how many bytes stand before the first byte `cut`
abbrev pub gap : ℕ → List ℕ → ℕ
gap cut [] = 0
gap cut (b ∷ bs) = cond (eqb b cut) 0 (suc (gap cut bs))

pub gap_as : (cut : ℕ) (bs : List ℕ) → position_or_len (λ b. eqb b cut) bs ≡ gap cut bs
gap_as cut [] = refl
gap_as cut (b ∷ bs) = step (eqb b cut) (gap_as cut bs)
  where
    step : (t : Bool) {m n : ℕ} → m ≡ n → cond (not t) (1 + m) 0 ≡ cond t 0 (suc n)
    step true e = refl
    step false e = omega arith

pub first_or_all : {X : Type 0} (p : X → Bool) (xs : List X) (o : Option ℕ) → o ≡ position p xs → unwrap_or o (length xs) ≡ position_or_len p xs
first_or_all p xs o e =
    let most = prefix_len-le-length (λ x. not (p x)) xs in
    elim (cases_lt (position_or_len p xs) (length xs)) [
      | inl l ↦ ap (λ q. unwrap_or q (length xs)) (e ∙ cond-true (ltb (position_or_len p xs) (length xs)) _ _ (lt-ltb _ _ l))
      | inr g ↦ ap (λ q. unwrap_or q (length xs)) (e ∙ cond-false (ltb (position_or_len p xs) (length xs)) _ _ (le-ltb _ _ g)) ∙ omega arith
    ]

-- the bytes counted from a place on are those before the first byte `cut`
pub counted : (cut : ℕ) (bs : List ℕ) (at n : ℕ) → at ≤ length bs → n ≡ position_or_len (λ b. eqb b cut) (take (length bs - at) (drop at bs)) →
    (at + n ≡ at + gap cut (drop at bs)) × (at + n ≤ length bs)
counted cut bs at n h e =
    let long = length-drop at bs in
    let rest : take (length bs - at) (drop at bs) ≡ drop at bs = take_all (length bs - at) (drop at bs) (omega arith) in
    let same : n ≡ position_or_len (λ b. eqb b cut) (drop at bs) = e ∙ ap (position_or_len (λ b. eqb b cut)) rest in
    let most : position_or_len (λ b. eqb b cut) (drop at bs) ≤ length (drop at bs) = prefix_len-le-length (λ b. not (eqb b cut)) (drop at bs) in
    (ap (λ m. at + m) (same ∙ gap_as cut (drop at bs)), omega arith)

module _ (s : ℕ) where
  -- the first part of a text cut at `s`, where a text with no part left is `[]`
  line_step : (t : Bool) (b : ℕ) (l : List ℕ) → onto b (parts s [] l) ≡ (b ∷ take (gap s l) l) ∷ parts s [] (drop (suc (gap s l)) l) →
      cond t ([] ∷ parts s [] l) (onto b (parts s [] l)) ≡ take (cond t 0 (suc (gap s l))) (b ∷ l) ∷ parts s [] (drop (suc (cond t 0 (suc (gap s l)))) (b ∷ l))
  line_step true b l e = refl
  line_step false b l e = e

  pub first_line : (b : ℕ) (l : List ℕ) → parts s [] (b ∷ l) ≡ take (gap s (b ∷ l)) (b ∷ l) ∷ parts s [] (drop (suc (gap s (b ∷ l))) (b ∷ l))
  first_line b [] = line_step (eqb b s) b [] refl
  first_line b (x ∷ l) = line_step (eqb b s) b (x ∷ l) (ap (onto b) (first_line x l))

  field_step : (t : Bool) (b : ℕ) (l : List ℕ) → cond t 0 (suc (gap s l)) < suc (length l) →
      (gap s l < length l → onto b (parts s ([] ∷ []) l) ≡ (b ∷ take (gap s l) l) ∷ parts s ([] ∷ []) (drop (suc (gap s l)) l)) →
      cond t ([] ∷ parts s ([] ∷ []) l) (onto b (parts s ([] ∷ []) l)) ≡ take (cond t 0 (suc (gap s l))) (b ∷ l) ∷ parts s ([] ∷ []) (drop (suc (cond t 0 (suc (gap s l)))) (b ∷ l))
  field_step true b l h e = refl
  field_step false b l h e = e (omega arith)

  pub first_field : (l : List ℕ) → gap s l < length l → parts s ([] ∷ []) l ≡ take (gap s l) l ∷ parts s ([] ∷ []) (drop (suc (gap s l)) l)
  first_field [] h = absurd (omega arith)
  first_field (b ∷ l) h = field_step (eqb b s) b l h (λ m. ap (onto b) (first_field l m))

  last_step : (t : Bool) (b : ℕ) (l : List ℕ) → suc (length l) ≤ cond t 0 (suc (gap s l)) →
      (length l ≤ gap s l → onto b (parts s ([] ∷ []) l) ≡ (b ∷ l) ∷ []) →
      cond t ([] ∷ parts s ([] ∷ []) l) (onto b (parts s ([] ∷ []) l)) ≡ (b ∷ l) ∷ []
  last_step true b l h e = absurd (omega arith)
  last_step false b l h e = e (omega arith)

  pub last_field : (l : List ℕ) → length l ≤ gap s l → parts s ([] ∷ []) l ≡ l ∷ []
  last_field [] h = refl
  last_field (b ∷ l) h = last_step (eqb b s) b l h (λ m. ap (onto b) (last_field l m))

-- the line at a place of the sheet, and the lines that follow
pub line_next : (bs : List ℕ) (at end : ℕ) → at < length bs → end ≡ at + gap 10 (drop at bs) → lines (drop at bs) ≡ take (end - at) (drop at bs) ∷ lines (drop (end + 1) bs)
line_next bs at end h e =
    let more = drop_more bs at 0 h in
    let whole : lines (drop at bs) ≡ take (gap 10 (drop at bs)) (drop at bs) ∷ lines (drop (suc (gap 10 (drop at bs))) (drop at bs)) =
    rw more (first_line 10 (get_or bs at 0) (drop (at + 1) bs)) in
    let first : gap 10 (drop at bs) ≡ end - at = omega arith in
    let rest : drop (suc (gap 10 (drop at bs))) (drop at bs) ≡ drop (end + 1) bs =
    drop-drop (suc (gap 10 (drop at bs))) at bs ∙ ap (λ n. drop n bs) (omega arith) in
    whole ∙ ap (λ n. take n (drop at bs) ∷ lines (drop (suc (gap 10 (drop at bs))) (drop at bs))) first ∙ ap (λ r. take (end - at) (drop at bs) ∷ lines r) rest

-- the field at a place of a line, and the fields that follow
pub field_next : (bs : List ℕ) (at end : ℕ) → at ≤ length bs → end ≡ at + gap 44 (drop at bs) → end ≤ length bs →
    fields_from bs at ≡ take (end - at) (drop at bs) ∷ fields_from bs (end + 1)
field_next bs at end h e w =
    let here : fields_from bs at ≡ fields (drop at bs) = cond-true (leb at (length bs)) _ _ (le-leb _ _ h) in
    let long = length-drop at bs in
    elim (cases_lt end (length bs)) [
      | inl l ↦
          let first : gap 44 (drop at bs) ≡ end - at = omega arith in
          let rest : drop (suc (gap 44 (drop at bs))) (drop at bs) ≡ drop (end + 1) bs =
          drop-drop (suc (gap 44 (drop at bs))) at bs ∙ ap (λ n. drop n bs) (omega arith) in
          let left : fields_from bs (end + 1) ≡ fields (drop (end + 1) bs) = cond-true (leb (end + 1) (length bs)) _ _ (le-leb _ _ (omega arith)) in
          here ∙ first_field 44 (drop at bs) (omega arith) ∙ ap (λ n. take n (drop at bs) ∷ fields (drop (suc (gap 44 (drop at bs))) (drop at bs))) first
          ∙ ap (λ r. take (end - at) (drop at bs) ∷ fields r) rest ∙ ap (λ r. take (end - at) (drop at bs) ∷ r) (sym left)
      | inr g ↦
          let all : take (end - at) (drop at bs) ≡ drop at bs = take_all (end - at) (drop at bs) (omega arith) in
          let left : fields_from bs (end + 1) ≡ [] = cond-false (leb (end + 1) (length bs)) _ _ (lt-leb _ _ (omega arith)) in
          here ∙ last_field 44 (drop at bs) (omega arith) ∙ ap (λ f. f ∷ []) (sym all) ∙ ap (λ r. take (end - at) (drop at bs) ∷ r) (sym left)
    ]

pub part_long : (bs : List ℕ) (at end : ℕ) → at ≤ end → end ≤ length bs → length (take (end - at) (drop at bs)) ≡ end - at
part_long bs at end h w = let long = length-drop at bs in length-take-le (end - at) (drop at bs) (omega arith)

-- the field that the lexer takes, where it goes on, and that it is the part of the text that it occupies
pub field_taken : (bs : List ℕ) (at end : ℕ) → at ≤ length bs → end ≡ at + gap 44 (drop at bs) → end ≤ length bs →
    (fields_from bs at ≡ take (end - at) (drop at bs) ∷ fields_from bs (end + 1)) ×
    (end + 1 ≡ at + length (take (end - at) (drop at bs)) + 1) ×
    (take (end - at) (drop at bs) ≡ take (length (take (end - at) (drop at bs))) (drop at bs))
field_taken bs at end h e w =
    let long : length (take (end - at) (drop at bs)) ≡ end - at = part_long bs at end (omega arith) w in
    (field_next bs at end h e w, omega arith, ap (λ n. take n (drop at bs)) (sym long))

-- the lexer's text ends with the line
pub line_fields : (bs : List ℕ) (at end : ℕ) → at ≤ end → end ≤ length bs → fields_from (take end bs) at ≡ fields (slice_range bs at end)
line_fields bs at end h w =
    let long : length (take end bs) ≡ end = length-take-le end bs w in
    let whole : take end bs ≡ take (at + (end - at)) bs = ap (λ n. take n bs) (omega arith) in
    cond-true (leb at (length (take end bs))) (fields (drop at (take end bs))) [] (le-leb _ _ (omega arith))
    ∙ ap (λ t. fields (drop at t)) whole ∙ ap fields (drop-take at (end - at) bs)
