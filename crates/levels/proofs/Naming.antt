-- What it means that an item is named. Assumes nothing.
use Rattle.std.proofs.Common.{◌≡◌, ℕ, zero, suc, ◌+◌, Bool, true, false, cond, eqb, List, [], ◌∷◌, Some, None, Option, sym, refl, ap, ◌∙◌, zero-add, arith}
use lib.Dec.{eqb-suc-suc, eqb-zero-suc, eqb-suc-zero}
use Rattle.std.proofs.lemmas.Bool.{eq-eqb, eqb-true, cond-true}
use Rattle.packing.specs.Packing.{at_home}
use Rattle.levels.specs.declared.item.Item.{Item}
use Rattle.levels.specs.Sums.{bit}
use Rattle.levels.specs.Items.{item_at, clients, duals}
use Rattle.levels.specs.Ticking.{next_level, picks, is_first, nearer, past, picked, named}
use Rattle.levels.specs.Theorems.{earlier, Chosen, NamedIsChosen}
use Rattle.levels.proofs.Never.{never_true, never_some}
use Rattle.levels.proofs.Clients.{IsPick, is_pick}
use Rattle.levels.proofs.Picks.{server_runs_from, picks_parts}

-- The test that a pick is k.
abbrev is : Option ℕ → ℕ → Bool
is None k = false
is (Some n) k = eqb n k

is_none_first : (o : Option ℕ) → is_first o ≡ is o 0
is_none_first None = refl
is_none_first (Some zero) = refl
is_none_first (Some (suc k)) = sym (eqb-suc-zero k)

one_more : (n : ℕ) → 1 + n ≡ suc n
one_more n = omega arith

is_later : (b : Bool) (o : Option ℕ) (n : ℕ) → is (cond b (nearer o) o) n ≡ is o (bit b + n)
is_later true None n = refl
is_later true (Some zero) n = rw one_more (sym (eqb-zero-suc n))
is_later true (Some (suc k)) n = rw one_more (sym (eqb-suc-suc k n))
is_later false o n = rw zero-add refl

picked_is : (pick : ℕ → Option ℕ) (xs : List Item) (i q : ℕ) → (item_at xs i).home ≡ Some q → picked pick xs i ≡ is (pick q) (earlier q xs i)
picked_is pick [] i q e = never_some q e
picked_is pick (x ∷ xs) zero q e = rw e (is_none_first (pick q))
picked_is pick (x ∷ xs) (suc i) q e = picked_is (past pick x.home) xs i q e ∙ is_later (at_home x.home q) (pick q) (earlier q xs i)

is_true : (o : Option ℕ) (k : ℕ) → is o k ≡ true → o ≡ Some k
is_true None k e = never_true e
is_true (Some n) k e = ap Some (eqb-true n k e)

pub named_is_chosen : NamedIsChosen
named_is_chosen rules unit items ss above i = (there, back)
  where
    dual_named : ℕ → Bool
    dual_named = named (next_level rules) unit (duals unit ss) above

    pick : ℕ → Option ℕ
    pick = picks (rules 0) items ss dual_named

    there : named rules unit items (ss ∷ above) i ≡ true → Chosen rules unit items ss above i
    there e =
        let p : IsPick pick (item_at items i) (clients items) = is_pick pick items i e in
        let q : ℕ = p.server in
        let (l, d, o) = picks_parts (rules 0) items ss dual_named q (earlier q items i) (is_true (pick q) (earlier q items i) (sym (picked_is pick items i q p.home_is) ∙ e)) in
        record { home = q; home_is = p.home_is; runs = server_runs_from ss dual_named q l d; names = o }

    back : Chosen rules unit items ss above i → named rules unit items (ss ∷ above) i ≡ true
    back c =
        picked_is pick items i c.home c.home_is
        ∙ ap (λ o. is o (earlier c.home items i)) (cond-true _ _ _ c.runs ∙ c.names)
        ∙ eq-eqb _ _ refl
