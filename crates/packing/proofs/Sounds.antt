-- What holds of every packing by a lawful rule. Assumes nothing.
use Rattle.std.proofs.Common.{◌≡◌, ℕ, zero, suc, ◌+◌, ◌<◌, ◌≤◌, Bool, true, false, cond, eqb, ◌≢◌, List, [], ◌∷◌, ◌++◌, length, get_or, set, Some, None, sum, Option, sym, refl, ap, ◌∙◌, ⊎_elim, arith}
use Rattle.std.specs.List.{AllByRecursion}
use Rattle.std.proofs.lemmas.List.{length-set, length_push, get_or-set_same, get_or-set_other, get_or_append_left, get_or_push, get_or_past}
use Rattle.std.proofs.lemmas.List.Sums.{sum_by-cons, sum_by_push, sum_by-set}
use Rattle.std.proofs.ByRecursion.{All-set, All-push}
use Rattle.std.proofs.lemmas.Bool.{cases_eq, cases_order, eqb-true, eqb-false, cond-true, cond-false, eq-eqb, ne_eqb}
use Rattle.packing.specs.Fitting.{Rule, Lawful}
use Rattle.packing.specs.Packing.{grown, goes_to, used_after, home_after, filled, settled, packing_of, at_home, clients, Within, Crowded, Sound}
use Rattle.packing.proofs.Fronts.{filled_longer, length_settled}
use Rattle.packing.proofs.Laws.{named_room, none_room}

-- ---- a server's used after an item

pub get_or_set_add : (used : List ℕ) (k x j : ℕ) → k < length used → get_or (set used k (get_or used k 0 + x)) j 0 ≡ get_or used j 0 + cond (eqb k j) x 0
get_or_set_add used k x j h =
    ⊎_elim
    (λ same.
    let test : cond (eqb k j) x 0 ≡ x = cond-true _ _ _ (eq-eqb _ _ same) in
    let new : get_or (set used k (get_or used k 0 + x)) k 0 ≡ get_or used k 0 + x = get_or-set_same used k _ 0 h in
    let at_j : get_or (set used k (get_or used k 0 + x)) j 0 ≡ get_or (set used k (get_or used k 0 + x)) k 0 = ap (λ i. get_or (set used k (get_or used k 0 + x)) i 0) (sym same) in
    let old : get_or used k 0 ≡ get_or used j 0 = ap (λ i. get_or used i 0) same in
    omega arith)
    (λ other.
    let test : cond (eqb k j) x 0 ≡ 0 = cond-false _ _ _ (ne_eqb _ _ other) in
    let kept : get_or (set used k (get_or used k 0 + x)) j 0 ≡ get_or used j 0 = get_or-set_other used k j _ 0 (λ e. other (sym e)) in
    omega arith)
    (cases_eq k j)

pub get_or_push_add : (used : List ℕ) (x j : ℕ) → get_or (used ++ x ∷ []) j 0 ≡ get_or used j 0 + cond (eqb (length used) j) x 0
get_or_push_add used x j =
    ⊎_elim
    (λ same.
    let test : cond (eqb (length used) j) x 0 ≡ x = cond-true _ _ _ (eq-eqb _ _ same) in
    let new : get_or (used ++ x ∷ []) j 0 ≡ x = get_or_push used x 0 j same in
    let old : get_or used j 0 ≡ 0 = get_or_past used j 0 (omega arith) in
    omega arith)
    (⊎_elim
    (λ past.
    let test : cond (eqb (length used) j) x 0 ≡ 0 = cond-false _ _ _ (ne_eqb (length used) j (omega arith)) in
    let new : get_or (used ++ x ∷ []) j 0 ≡ 0 = get_or_past (used ++ x ∷ []) j 0 (omega (arith, length_push used x)) in
    let old : get_or used j 0 ≡ 0 = get_or_past used j 0 (omega arith) in
    omega arith)
    (λ before.
    let test : cond (eqb (length used) j) x 0 ≡ 0 = cond-false _ _ _ (ne_eqb (length used) j (omega arith)) in
    let kept : get_or (used ++ x ∷ []) j 0 ≡ get_or used j 0 = get_or_append_left used (x ∷ []) 0 j before in
    omega arith))
    (cases_order (length used) j)

-- ---- the three ways of one item

module _ (rule : Rule) (unit : ℕ) (used : List ℕ) (x : ℕ) (P : List ℕ → Option ℕ → Type 0)
    (none : x ≡ 0 → P used None)
    (named : (j : ℕ) → 0 < x → rule used unit x ≡ Some j → P (set used j (get_or used j 0 + x)) (Some j))
    (new : 0 < x → rule used unit x ≡ None → P (used ++ x ∷ []) (Some (length used))) where
  by_name : 0 < x → (o : Option ℕ) → rule used unit x ≡ o → P (grown o used x) (Some (goes_to o used))
  by_name h (Some j) e = named j h e
  by_name h None e = new h e

  by_rate : (b : Bool) → eqb x 0 ≡ b → P (cond b used (grown (rule used unit x) used x)) (cond b None (Some (goes_to (rule used unit x) used)))
  by_rate true e = none (eqb-true _ _ e)
  by_rate false e = let ne = eqb-false x 0 e in by_name (omega arith) (rule used unit x) refl

  pub one_item : P (used_after rule unit used x) (home_after rule unit used x)
  one_item = by_rate (eqb x 0) refl

module _ (rule : Rule) (lawful : Lawful rule) (unit : ℕ) where
  -- ---- loads

  sum_clients : (b : Bool) (x : ℕ) (xs : List ℕ) → sum (cond b (x ∷ xs) xs) ≡ cond b x 0 + sum xs
  sum_clients true x xs = sum_by-cons (λ y. y) x xs
  sum_clients false x xs = omega arith

  step_load : (used : List ℕ) (x j : ℕ)
      → get_or (used_after rule unit used x) j 0 ≡ get_or used j 0 + cond (at_home (home_after rule unit used x) j) x 0
  step_load used x j =
      one_item rule unit used x (λ ps h. get_or ps j 0 ≡ get_or used j 0 + cond (at_home h j) x 0)
      (λ _. omega arith)
      (λ k _ e. get_or_set_add used k x j (named_room rule lawful used unit x k e).0)
      (λ _ _. get_or_push_add used x j)

  filled_load : (used xs : List ℕ) (j : ℕ) → get_or (filled rule unit used xs) j 0 ≡ get_or used j 0 + sum (clients (settled rule unit used xs) xs j)
  filled_load used [] j = omega arith
  filled_load used (x ∷ xs) j =
      let h = home_after rule unit used x in
      let hs = settled rule unit (used_after rule unit used x) xs in
      omega (arith, step_load used x j, filled_load (used_after rule unit used x) xs j, sum_clients (at_home h j) x (clients hs xs j))

  -- ---- within the unit

  step_within : (used : List ℕ) (x : ℕ) → x ≤ unit → AllByRecursion (Within unit) used → AllByRecursion (Within unit) (used_after rule unit used x)
  step_within used x h all =
      one_item rule unit used x (λ ps _. AllByRecursion (Within unit) ps)
      (λ _. all)
      (λ k some e. All-set (Within unit) used k _ (omega arith, (named_room rule lawful used unit x k e).1) all)
      (λ some _. All-push (Within unit) used x all (omega arith, h))

  filled_within : (used xs : List ℕ) → AllByRecursion (Within unit) used → AllByRecursion (λ x. x ≤ unit) xs → AllByRecursion (Within unit) (filled rule unit used xs)
  filled_within used [] all small = all
  filled_within used (x ∷ xs) all small = filled_within (used_after rule unit used x) xs (step_within used x small.0 all) small.1

  -- ---- any two servers are above the unit

  step_crowded : (used : List ℕ) (x : ℕ) → Crowded unit used → Crowded unit (used_after rule unit used x)
  step_crowded used x before =
      one_item rule unit used x (λ ps _. Crowded unit ps)
      (λ _. before)
      (λ k _ e i j below len.
      let room = named_room rule lawful used unit x k e in
      let same = length-set used k (get_or used k 0 + x) in
      omega (arith, before i j below (omega arith), get_or_set_add used k x i room.0, get_or_set_add used k x j room.0))
      (λ _ e i j below len.
      ⊎_elim
      (λ last.
      let full = none_room rule lawful used unit x e i (omega (arith, length_push used x)) in
      let at_i : get_or (used ++ x ∷ []) i 0 ≡ get_or used i 0 = get_or_append_left used (x ∷ []) 0 i (omega (arith, length_push used x)) in
      let at_j : get_or (used ++ x ∷ []) j 0 ≡ x = get_or_push used x 0 j last in
      omega arith)
      (λ other.
      let old = before i j below (omega (arith, length_push used x)) in
      omega (arith, get_or_push_add used x i, get_or_push_add used x j))
      (cases_eq (length used) j))

  filled_crowded : (used xs : List ℕ) → Crowded unit used → Crowded unit (filled rule unit used xs)
  filled_crowded used [] before = before
  filled_crowded used (x ∷ xs) before = filled_crowded (used_after rule unit used x) xs (step_crowded used x before)

  -- ---- sums

  step_sum : (used : List ℕ) (x : ℕ) → sum (used_after rule unit used x) ≡ sum used + x
  step_sum used x =
      one_item rule unit used x (λ ps _. sum ps ≡ sum used + x)
      (λ none. omega arith)
      (λ k _ e. omega (arith, sum_by-set (λ y. y) used k (get_or used k 0 + x) 0 (named_room rule lawful used unit x k e).0))
      (λ _ _. sum_by_push (λ y. y) used x)

  filled_sum : (used xs : List ℕ) → sum (filled rule unit used xs) ≡ sum used + sum xs
  filled_sum used [] = omega arith
  filled_sum used (x ∷ xs) = omega (arith, step_sum used x, filled_sum (used_after rule unit used x) xs, sum_by-cons (λ y. y) x xs)

  -- ---- homes

  step_housed : (used : List ℕ) (x : ℕ) → x ≢ 0 → (j : ℕ) × (home_after rule unit used x ≡ Some j) × (j < length (used_after rule unit used x))
  step_housed used x some =
      one_item rule unit used x (λ ps h. (j : ℕ) × (h ≡ Some j) × (j < length ps))
      (λ none. absurd (some none))
      (λ k _ e. (k, refl, simp length-set (named_room rule lawful used unit x k e).0))
      (λ _ _. (length used, refl, omega (arith, length_push used x)))

  filled_housed : (used xs : List ℕ) (i : ℕ) → i < length xs → get_or xs i 0 ≢ 0
      → (j : ℕ) × (get_or (settled rule unit used xs) i None ≡ Some j) × (j < length (filled rule unit used xs))
  filled_housed used [] i h some = absurd (omega arith)
  filled_housed used (x ∷ xs) zero h some =
      let one = step_housed used x some in
      (one.0, one.1, omega (arith, filled_longer rule unit (used_after rule unit used x) xs))
  filled_housed used (x ∷ xs) (suc i) h some = filled_housed (used_after rule unit used x) xs i (omega arith) some

  filled_unhoused : (used xs : List ℕ) (i : ℕ) → i < length xs → get_or xs i 0 ≡ 0 → get_or (settled rule unit used xs) i None ≡ None
  filled_unhoused used [] i h none = absurd (omega arith)
  filled_unhoused used (x ∷ xs) zero h none = cond-true _ _ _ (eq-eqb _ _ none)
  filled_unhoused used (x ∷ xs) (suc i) h none = filled_unhoused (used_after rule unit used x) xs i (omega arith) none

  pub sound_packing : (items : List ℕ) → AllByRecursion (λ x. x ≤ unit) items → Sound unit items (packing_of rule unit items)
  sound_packing items small = record {
    homes_known = length_settled rule unit [] items;
    housed = filled_housed [] items;
    unhoused = filled_unhoused [] items;
    loads = λ j. filled_load [] items j ∙ omega arith;
    sums = filled_sum [] items ∙ omega arith;
    within = filled_within [] items tt small;
    crowded = filled_crowded [] items (λ i j below len. absurd (omega arith));
  }
