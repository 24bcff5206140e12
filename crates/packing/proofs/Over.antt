-- A list that is written over the front of a table. Assumes nothing.
use Rattle.std.proofs.Common.{◌≡◌, ℕ, suc, ◌+◌, ◌-◌, ◌<◌, ◌≤◌, List, [], ◌∷◌, ◌++◌, length, get_or, take, drop, set, sym, ap, ◌∙◌, arith, drop-cons, drop-drop}
use lib.Seq.{append_snoc, drop-append-add, take-append_seam, set-append_seam}
use Rattle.std.proofs.lemmas.List.{length-append, length_push, length-drop, length-take-le, take-append-drop}
use Rattle.packing.specs.Tables.{over}

pub over_over : {X : Type 0} (xs ys old : List X) → length xs ≤ length ys → over ys (over xs old) ≡ over ys old
over_over xs ys old h =
    let k : ℕ = length ys - length xs in
    let split : length ys ≡ length xs + k = omega arith in
    ap (λ zs. ys ++ zs)
    (ap (λ n. drop n (over xs old)) split
    ∙ drop-append-add xs (drop (length xs) old) k
    ∙ drop-drop k (length xs) old
    ∙ ap (λ n. drop n old) (sym split))

pub over_set : {X : Type 0} (xs old : List X) (y : X) → length xs < length old → set (over xs old) (length xs) y ≡ over (xs ++ y ∷ []) old
over_set xs old y h =
    let more : length (xs ++ y ∷ []) ≡ suc (length xs) = length_push xs y ∙ omega arith in
    ap (λ zs. set (xs ++ zs) (length xs) y) (drop-cons old (length xs) y h)
    ∙ set-append_seam xs (get_or old (length xs) y) (drop (suc (length xs)) old) y
    ∙ sym (append_snoc xs y (drop (suc (length xs)) old))
    ∙ ap (λ n. xs ++ y ∷ [] ++ drop n old) (sym more)

pub length_over : {X : Type 0} (xs old : List X) → length xs ≤ length old → length (over xs old) ≡ length old
length_over xs old h = simp (length-append, length-drop) (omega arith)

pub take_over : {X : Type 0} (xs old : List X) → take (length xs) (over xs old) ≡ xs
take_over xs old = take-append_seam xs (drop (length xs) old)

-- one value more of a list that is written over the front of a slice
pub over_push : {X : Type 0} (front old new : List X) (i : ℕ) (y : X) → length front ≡ i → i < length old
    → new ≡ over front old → set new i y ≡ over (front ++ y ∷ []) old
over_push front old new i y len room was =
    let fits : length front < length old = omega arith in
    ap (λ ys. set ys i y) was
    ∙ ap (λ n. set (over front old) n y) (sym len)
    ∙ over_set front old y fits

-- the front of a table over itself
pub over_take : {X : Type 0} (n : ℕ) (old : List X) → n ≤ length old → over (take n old) old ≡ old
over_take n old h = ap (λ k. take n old ++ drop k old) (length-take-le n old h) ∙ take-append-drop n old
