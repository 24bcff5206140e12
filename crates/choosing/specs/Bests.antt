-- The best of the first n clients, kept step by step, and that it is the first unbeaten one in the end. Assumes nothing.
use Rattle.std.specs.Prelude.{◌≡◌, ℕ, zero, suc, ◌+◌, ◌<◌, ◌≤◌, Bool, true, false, not, ◌&&◌, List, [], ◌∷◌, length, Some, None, Option, position, refl}
use Rattle.std.proofs.Common.{sym, ap, subst, ◌∙◌, ⊎_elim, add-one, arith, below_more}
use Rattle.std.specs.List.{list_all, position_or_len}
use Rattle.std.specs.Cmp.{IsStrictWeakOrder}
use Rattle.std.proofs.lemmas.List.Folds.{list_all_at}
use Rattle.std.proofs.lemmas.List.Sums.{position_or_len_is}
use Rattle.std.proofs.lemmas.Bool.{cases_lt, cases_Bool, both_ways, lt-ltb, le-ltb, and_from, and_left, and_right, cond-true, cond-false, not_from_true, not_from_false}
use Rattle.choosing.specs.declared.share.Share.{Share}
use Rattle.choosing.specs.Balance.{nothing, at}
use Rattle.choosing.specs.Rules.{has_left, unbeaten}

-- Of the first n clients, the one at j has left, none with left beats it, and it beats each earlier one with left.
pub record Leads (beats : Share → Share → Bool) (cs : List Share) (n j : ℕ) : Type 0 where
  pub within : j < n
  pub left : 1 ≤ (at cs j).left
  pub ahead : (k : ℕ) → k < n → 1 ≤ (at cs k).left → beats (at cs k) (at cs j) ≡ false
  pub first : (k : ℕ) → k < j → 1 ≤ (at cs k).left → beats (at cs j) (at cs k) ≡ true

-- r is the best of the first n clients
abbrev pub Best : (Share → Share → Bool) → List Share → ℕ → Option ℕ → Type 0
Best beats cs n None = (k : ℕ) → k < n → (at cs k).left ≡ 0
Best beats cs n (Some j) = Leads beats cs n j

-- ---- one client more
module _ {beats : Share → Share → Bool} (o : IsStrictWeakOrder beats) (cs : List Share) where
  never_itself : (x : Share) → beats x x ≡ false
  never_itself x = ⊎_elim (λ t. o.one_way x x t) (λ f. f) (cases_Bool (beats x x))

  -- it has nothing left
  pub best_idle : (i : ℕ) (r : Option ℕ) → Best beats cs i r → (at cs i).left ≡ 0 → Best beats cs (i + 1) r
  best_idle i None b none = below_more _ _ b none
  best_idle i (Some j) b none = record {
    within = omega (arith, b.within);
    left = b.left;
    ahead = below_more _ _ b.ahead (λ has. absurd (omega arith));
    first = b.first;
  }

  -- it is the first with left
  pub best_opens : (i : ℕ) → Best beats cs i None → 1 ≤ (at cs i).left → Best beats cs (i + 1) (Some i)
  best_opens i b has = record {
    within = omega arith;
    left = has;
    ahead = below_more _ _ (λ k in' left. absurd (omega (arith, b k in'))) (λ _. never_itself (at cs i));
    first = λ k in' left. absurd (omega (arith, b k in'));
  }

  -- it beats the best so far
  pub best_takes : (i j : ℕ) → Best beats cs i (Some j) → 1 ≤ (at cs i).left → beats (at cs i) (at cs j) ≡ true → Best beats cs (i + 1) (Some i)
  best_takes i j b has won = record {
    within = omega arith;
    left = has;
    ahead = below_more _ _ (λ k in' left. o.chain (at cs k) (at cs j) (at cs i) (b.ahead k in' left) (o.one_way (at cs i) (at cs j) won)) (λ _. never_itself (at cs i));
    first = λ k in' left. ⊎_elim
        (λ t. t)
        (λ f. absurd (both_ways (beats (at cs i) (at cs j)) (o.chain (at cs i) (at cs k) (at cs j) f (b.ahead k in' left)) won))
        (cases_Bool (beats (at cs i) (at cs k)));
  }

  -- it does not
  pub best_keeps : (i j : ℕ) → Best beats cs i (Some j) → beats (at cs i) (at cs j) ≡ false → Best beats cs (i + 1) (Some j)
  best_keeps i j b lost = record {
    within = omega (arith, b.within);
    left = b.left;
    ahead = below_more _ _ b.ahead (λ _. lost);
    first = b.first;
  }

  -- so there is a best
  best_more : (i : ℕ) (r : Option ℕ) → Best beats cs i r → 1 ≤ (at cs i).left → (q : Option ℕ) × Best beats cs (i + 1) q
  best_more i None b has = (Some i, best_opens i b has)
  best_more i (Some j) b has = ⊎_elim
      (λ won. (Some i, best_takes i j b has won))
      (λ lost. (Some j, best_keeps i j b lost))
      (cases_Bool (beats (at cs i) (at cs j)))

  pub some_best : (n : ℕ) → (r : Option ℕ) × Best beats cs n r
  some_best zero = (None, λ k in'. absurd (omega arith))
  some_best (suc i) =
      let (r, b) = some_best i in
      let P : ℕ → Type 0 = λ m. (q : Option ℕ) × Best beats cs m q in
      subst P (add-one i) (⊎_elim
      (λ none. (r, best_idle i r b (omega arith)))
      (λ has. best_more i r b has)
      (cases_lt (at cs i).left 1))

-- ---- the best of all is the first that is unbeaten
list_all_true : (p : Share → Bool) (cs : List Share) → ((k : ℕ) → k < length cs → p (at cs k) ≡ true) → list_all p cs ≡ true
list_all_true p [] each = refl
list_all_true p (c ∷ cs) each = and_from (p c) (list_all p cs) (each 0 (omega arith)) (list_all_true p cs (λ k in'. each (suc k) (omega arith)))

module _ (p : Share → Bool) (cs : List Share) where
  position_none : ((k : ℕ) → k < length cs → p (at cs k) ≡ false) → position p cs ≡ None
  position_none each =
      let end = position_or_len_is p cs (length cs) nothing (omega arith) each (λ past. absurd (omega arith)) in
      cond-false _ _ _ (le-ltb (position_or_len p cs) (length cs) (omega arith))

  position_some : (j : ℕ) → j < length cs → p (at cs j) ≡ true → ((k : ℕ) → k < j → p (at cs k) ≡ false) → position p cs ≡ Some j
  position_some j in' here before =
      let first = position_or_len_is p cs j nothing (omega arith) before (λ _. here) in
      cond-true _ _ _ (lt-ltb (position_or_len p cs) (length cs) (omega arith)) ∙ ap Some first

module _ (beats : Share → Share → Bool) (cs : List Share) where
  idle_not_unbeaten : (c : Share) → c.left ≡ 0 → unbeaten beats cs c ≡ false
  idle_not_unbeaten c none = and_left (has_left c) _ (le-ltb 0 c.left (omega arith))

  leader_unbeaten : (j : ℕ) → Leads beats cs (length cs) j → unbeaten beats cs (at cs j) ≡ true
  leader_unbeaten j b = and_from (has_left (at cs j)) _ (lt-ltb 0 (at cs j).left b.left)
      (list_all_true (λ k. not (has_left k && beats k (at cs j))) cs (λ k in'. not_from_false (has_left (at cs k) && beats (at cs k) (at cs j))
      (⊎_elim
      (λ none. and_left (has_left (at cs k)) (beats (at cs k) (at cs j)) (le-ltb 0 (at cs k).left (omega arith)))
      (λ has. and_right (has_left (at cs k)) (beats (at cs k) (at cs j)) (b.ahead k in' has))
      (cases_lt (at cs k).left 1))))

  earlier_beaten : (j : ℕ) → Leads beats cs (length cs) j → (k : ℕ) → k < j → unbeaten beats cs (at cs k) ≡ false
  earlier_beaten j b k before = ⊎_elim
      (λ none. idle_not_unbeaten (at cs k) (omega arith))
      (λ has. and_right (has_left (at cs k)) _ (list_all_at (λ i. not (has_left i && beats i (at cs k))) cs j nothing b.within
      (not_from_true (has_left (at cs j) && beats (at cs j) (at cs k)) (and_from (has_left (at cs j)) (beats (at cs j) (at cs k)) (lt-ltb 0 (at cs j).left b.left) (b.first k before has)))))
      (cases_lt (at cs k).left 1)

  pub best_is_first : (r : Option ℕ) → Best beats cs (length cs) r → r ≡ position (unbeaten beats cs) cs
  best_is_first None b = sym (position_none (unbeaten beats cs) cs (λ k in'. idle_not_unbeaten (at cs k) (b k in')))
  best_is_first (Some j) b = sym (position_some (unbeaten beats cs) cs j b.within (leader_unbeaten j b) (earlier_beaten j b))

pub first_is_best : {beats : Share → Share → Bool} (o : IsStrictWeakOrder beats) (cs : List Share) → Best beats cs (length cs) (position (unbeaten beats cs) cs)
first_is_best {beats} o cs =
    let (r, b) = some_best o cs (length cs) in
    let P : Option ℕ → Type 0 = Best beats cs (length cs) in
    subst P (best_is_first beats cs r b) b
