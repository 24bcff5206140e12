-- The packing of the first items of a list, one item on. Assumes nothing.
use Rattle.std.proofs.Common.{◌≡◌, ℕ, suc, ◌+◌, ◌<◌, ◌≤◌, eqb, ◌≢◌, List, [], ◌∷◌, ◌++◌, length, get_or, take, drop, Some, None, Option, sym, refl, ap, ◌∙◌, arith}
use Rattle.std.proofs.lemmas.List.{length-set, length-append, length_push, length-take-le, take-append-drop, take_more}
use Rattle.std.proofs.lemmas.Bool.{cond-true, cond-false, cond_both, eq-eqb, ne_eqb}
use Rattle.packing.specs.Fitting.{Rule}
use Rattle.packing.specs.Packing.{Packing, grown, used_after, home_after, filled, settled, servers_of, homes_of, packing_of}
use Rattle.packing.specs.Steps.{Placed}

-- ---- packings of two lists, one after the other

module _ (rule : Rule) (unit : ℕ) where
  pub filled_append : (used xs ys : List ℕ) → filled rule unit used (xs ++ ys) ≡ filled rule unit (filled rule unit used xs) ys
  filled_append used [] ys = refl
  filled_append used (x ∷ xs) ys = filled_append (used_after rule unit used x) xs ys

  pub settled_append : (used xs ys : List ℕ)
      → settled rule unit used (xs ++ ys) ≡ settled rule unit used xs ++ settled rule unit (filled rule unit used xs) ys
  settled_append used [] ys = refl
  settled_append used (x ∷ xs) ys = ap (λ hs. home_after rule unit used x ∷ hs) (settled_append (used_after rule unit used x) xs ys)

  pub length_settled : (used xs : List ℕ) → length (settled rule unit used xs) ≡ length xs
  length_settled used [] = refl
  length_settled used (x ∷ xs) = ap suc (length_settled (used_after rule unit used x) xs)

pub grown_longer : (named : Option ℕ) (used : List ℕ) (rate : ℕ) → length used ≤ length (grown named used rate)
grown_longer (Some j) used rate = simp length-set (omega arith)
grown_longer None used rate = simp length-append (omega arith)

pub filled_longer : (rule : Rule) (unit : ℕ) (used xs : List ℕ) → length used ≤ length (filled rule unit used xs)
filled_longer rule unit used [] = omega arith
filled_longer rule unit used (x ∷ xs) =
    let one : length used ≤ length (used_after rule unit used x) =
    cond_both (eqb x 0) used (grown (rule used unit x) used x) (λ ps. length used ≤ length ps) (λ _. omega arith) (λ _. grown_longer (rule used unit x) used x) in
    let rest = filled_longer rule unit (used_after rule unit used x) xs in
    omega arith

same_packing : (p q : Packing) → p.homes ≡ q.homes → p.rates ≡ q.rates → p ≡ q
same_packing p q homes rates = λ t. record { homes = homes t; rates = rates t }

-- ---- one item on, where p is the packing of the first i items

module _ (rule : Rule) (unit : ℕ) (items : List ℕ) (i : ℕ) (p : Packing) (within : i < length items) (before : p ≡ packing_of rule unit (take i items)) where
  pub homes_count : length p.homes ≡ i
  homes_count = ap (λ q. length q.homes) before ∙ length_settled rule unit [] (take i items) ∙ length-take-le i items (omega arith)

  rates_on : servers_of rule unit (take (i + 1) items) ≡ used_after rule unit p.rates (get_or items i 0)
  rates_on =
      ap (servers_of rule unit) (take_more items i 0 within)
      ∙ filled_append rule unit [] (take i items) (get_or items i 0 ∷ [])
      ∙ ap (λ q. used_after rule unit q.rates (get_or items i 0)) (sym before)

  homes_on : homes_of rule unit (take (i + 1) items) ≡ p.homes ++ home_after rule unit p.rates (get_or items i 0) ∷ []
  homes_on =
      ap (homes_of rule unit) (take_more items i 0 within)
      ∙ settled_append rule unit [] (take i items) (get_or items i 0 ∷ [])
      ∙ ap (λ q. q.homes ++ home_after rule unit q.rates (get_or items i 0) ∷ []) (sym before)

  one_on : (q : Packing) → q.homes ≡ p.homes ++ home_after rule unit p.rates (get_or items i 0) ∷ [] → q.rates ≡ used_after rule unit p.rates (get_or items i 0)
      → q ≡ packing_of rule unit (take (i + 1) items)
  one_on q homes rates = same_packing q _ (homes ∙ sym homes_on) (rates ∙ sym rates_on)

  -- rate 0: no item
  pub packed_skip : get_or items i 0 ≡ 0 → (q : Packing) → q.homes ≡ p.homes ++ None ∷ [] → q.rates ≡ p.rates → q ≡ packing_of rule unit (take (i + 1) items)
  packed_skip none q homes rates =
      one_on q
      (homes ∙ ap (λ h. p.homes ++ h ∷ []) (sym (cond-true _ _ _ (eq-eqb _ _ none))))
      (rates ∙ sym (cond-true _ _ _ (eq-eqb _ _ none)))

  module _ (some : get_or items i 0 ≢ 0) where
    -- an item was placed at j
    pub packed_more : (j : ℕ) (q : Packing) → Placed (rule p.rates unit (get_or items i 0)) p.rates (get_or items i 0) j q.rates
        → q.homes ≡ p.homes ++ Some j ∷ [] → q ≡ packing_of rule unit (take (i + 1) items)
    packed_more j q placed homes =
        one_on q
        (homes ∙ ap (λ h. p.homes ++ h ∷ []) (ap Some placed.home ∙ sym (cond-false _ _ _ (ne_eqb _ _ some))))
        (placed.used ∙ sym (cond-false _ _ _ (ne_eqb _ _ some)))

    -- an item found neither room nor a place for a new server
    pub packed_full : rule p.rates unit (get_or items i 0) ≡ None → length p.rates ≡ 31 → 31 < length (servers_of rule unit items)
    packed_full none full =
        let more : servers_of rule unit (take (i + 1) items) ≡ p.rates ++ get_or items i 0 ∷ [] =
        rates_on ∙ cond-false _ _ _ (ne_eqb _ _ some) ∙ ap (λ o. grown o p.rates (get_or items i 0)) none in
        let all : servers_of rule unit items ≡ filled rule unit (servers_of rule unit (take (i + 1) items)) (drop (i + 1) items) =
        ap (servers_of rule unit) (sym (take-append-drop (i + 1) items)) ∙ filled_append rule unit [] (take (i + 1) items) (drop (i + 1) items) in
        omega (
          arith,
          filled_longer rule unit (servers_of rule unit (take (i + 1) items)) (drop (i + 1) items),
          ap length all,
          ap length more,
          length_push p.rates (get_or items i 0),
        )
