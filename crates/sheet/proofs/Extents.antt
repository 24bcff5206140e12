-- The places of lines and fields: a part stands in the text where the extent of the parts before it ends. Assumes nothing.
use Rattle.std.proofs.Common.{◌≡◌, ℕ, zero, suc, ◌+◌, ◌-◌, ◌<◌, ◌≤◌, Bool, true, false, cond, eqb, List, [], ◌∷◌, ◌++◌, length, get_or, take, drop, sym, refl, ap, ◌∙◌, arith}
use Rattle.std.proofs.lemmas.List.{take_more, drop-drop, drop_more, drop-take, take-take, length-drop}
use Rattle.sheet.specs.Faults.{extent, line_at, line_place, field_at, field_place}
use Rattle.sheet.specs.Parts.{onto, parts, lines, fields}

-- part n lies in the text, and stands there at its place
abbrev pub Part : List ℕ → List (List ℕ) → ℕ → Type 0
Part bs ps n =
    (extent (take n ps) + length (get_or ps n []) ≤ length bs) × (take (length (get_or ps n [])) (drop (extent (take n ps)) bs) ≡ get_or ps n [])

module _ (cut : ℕ) (end : List (List ℕ)) (base : (n : ℕ) → n < length end → Part [] end n) where
  part_step : (t : Bool) (b : ℕ) (bs : List ℕ) (ps : List (List ℕ)) → ((n : ℕ) → n < length ps → Part bs ps n) →
      (n : ℕ) → n < length (cond t ([] ∷ ps) (onto b ps)) → Part (b ∷ bs) (cond t ([] ∷ ps) (onto b ps)) n
  part_step true b bs ps ih zero h = (omega arith, refl)
  part_step true b bs ps ih (suc m) h =
      let rest = ih m (omega arith) in
      let next : 0 + 1 + extent (take m ps) ≡ suc (extent (take m ps)) = omega arith in
      (let fits = rest.0 in omega arith, ap (λ p. take (length (get_or ps m [])) (drop p (b ∷ bs))) next ∙ rest.1)
  part_step false b bs [] ih zero h = (omega arith, refl)
  part_step false b bs [] ih (suc m) h = absurd (omega arith)
  part_step false b bs (p ∷ ps) ih zero h =
      let first = ih zero (omega arith) in
      (let fits = first.0 in omega arith, ap (λ l. b ∷ l) first.1)
  part_step false b bs (p ∷ ps) ih (suc m) h =
      let rest = ih (suc m) h in
      let next : suc (length p) + 1 + extent (take m ps) ≡ suc (length p + 1 + extent (take m ps)) = omega arith in
      (let fits = rest.0 in omega arith, ap (λ q. take (length (get_or ps m [])) (drop q (b ∷ bs))) next ∙ rest.1)

  part_in : (bs : List ℕ) (n : ℕ) → n < length (parts cut end bs) → Part bs (parts cut end bs) n
  part_in [] n h = base n h
  part_in (b ∷ bs) n h = part_step (eqb b cut) b bs (parts cut end bs) (part_in bs) n h

no_part : (n : ℕ) → n < 0 → Part [] [] n
no_part n h = absurd (omega arith)

empty_part : (n : ℕ) → n < 1 → Part [] ([] ∷ []) n
empty_part zero h = (omega arith, refl)
empty_part (suc n) h = absurd (omega arith)

pub line_in : (bs : List ℕ) (n : ℕ) → n < length (lines bs) → Part bs (lines bs) n
line_in = part_in 10 [] no_part

pub field_in : (l : List ℕ) (n : ℕ) → n < length (fields l) → Part l (fields l) n
field_in = part_in 44 ([] ∷ []) empty_part

extent_push : (ps : List (List ℕ)) (p : List ℕ) → extent (ps ++ p ∷ []) ≡ extent ps + length p + 1
extent_push [] p = omega arith
extent_push (q ∷ ps) p = let rest = extent_push ps p in omega arith

pub extent_more : (ps : List (List ℕ)) (n : ℕ) → n < length ps → extent (take (n + 1) ps) ≡ extent (take n ps) + length (get_or ps n []) + 1
extent_more ps n h = ap extent (take_more ps n [] h) ∙ extent_push (take n ps) (get_or ps n [])

pub extent_grows : (ps : List (List ℕ)) (i j : ℕ) → i ≤ j → extent (take i ps) ≤ extent (take j ps)
extent_grows ps zero j h = omega arith
extent_grows ps (suc i) zero h = absurd (omega arith)
extent_grows [] (suc i) (suc j) h = omega arith
extent_grows (p ∷ ps) (suc i) (suc j) h = let rest = extent_grows ps i j (omega arith) in omega arith

-- a field of a line stands in the sheet
pub field_in_sheet : (bs : List ℕ) (k i : ℕ) → 1 ≤ k → k ≤ length (lines bs) → i < length (fields (line_at bs k)) →
    (field_place bs k i + length (field_at bs k i) ≤ length bs) × (take (length (field_at bs k i)) (drop (field_place bs k i) bs) ≡ field_at bs k i)
field_in_sheet bs k i some known there =
    let l : List ℕ = line_at bs k in
    let p : ℕ = line_place bs k in
    let e : ℕ = extent (take i (fields l)) in
    let f : List ℕ = field_at bs k i in
    let line = line_in bs (k - 1) (omega arith) in
    let field = field_in l i there in
    let within : e + length f ≤ length l = field.0 in
    let fits : p + length l ≤ length bs = line.0 in
    let here : take (length l) (drop p bs) ≡ l = line.1 in
    let n : ℕ = length l - e in
    let split : length l ≡ e + n = omega arith in
    let cut : drop e l ≡ take n (drop (p + e) bs) =
    ap (drop e) (sym here) ∙ ap (λ m. drop e (take m (drop p bs))) split ∙ drop-take e n (drop p bs) ∙ ap (take n) (drop-drop e p bs) in
    (omega arith, sym (take-take (length f) n (drop (p + e) bs) (omega arith)) ∙ ap (take (length f)) (sym cut) ∙ field.1)

-- what is left of a list after n of its elements
pub drop_first : {X : Type 0} (xs : List X) (n : ℕ) (d y : X) (ys : List X) → y ∷ ys ≡ drop n xs → (n < length xs) × (get_or xs n d ≡ y) × (ys ≡ drop (n + 1) xs)
drop_first xs n d y ys e =
    let long = length-drop n xs in
    let some : suc (length ys) ≡ length (drop n xs) = ap length e in
    let here : n < length xs = omega arith in
    let both : y ∷ ys ≡ get_or xs n d ∷ drop (n + 1) xs = e ∙ drop_more xs n d here in
    (here, sym (ap (λ l. get_or l 0 d) both), ap (drop 1) both)

pub drop_none : {X : Type 0} (xs : List X) (n : ℕ) → [] ≡ drop n xs → length xs ≤ n
drop_none xs n e =
    let long = length-drop n xs in
    let none : 0 ≡ length (drop n xs) = ap length e in
    omega arith
