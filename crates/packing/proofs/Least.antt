-- What `min_by_key` gives of the items of an iterator: the first of the least key. Assumes nothing.
use Rattle.std.proofs.Common.{◌≡◌, ℕ, ◌+◌, Bool, nat_le, Ordering, Less, Equal, Greater, List, [], ◌∷◌, Some, None, Option, refl, sym, ap, ◌∙◌, subst, ⊎_elim, arith}
use Rattle.std.specs.Fn.{CalledAt}
use Rattle.std.specs.Iterator.{Drains, KeyTurn, PicksMinByKey}
use Rattle.std.specs.List.{FoldsTo, reduce}
use Rattle.std.specs.Option.{MatchOption, option_map}
use Rattle.std.specs.Ordering.{min_by_ordering, nat_cmp}
use Rattle.std.proofs.lemmas.Iterator.{YieldsList, YieldsList-from_slice}
use Rattle.std.proofs.lemmas.Iterator.Consumers.{YieldsList-at, YieldsList-from_enumerate, YieldsList-from_filter, reduce_by_from_yields_List}
use Rattle.std.specs.Cmp.{nat_cmp_is}
use Rattle.std.proofs.lemmas.Bool.{cases_eq, cases_lt, cond-true, cond-false, lt-ltb, le-ltb}
use Rattle.packing.specs.Rules.{with_room, lesser, least}
use Rattle.std.specs.Slice.Iter.{iter_rest}
use Rattle.std.specs.Iterator.Adapters.{enumerate_source, enumerate_count, enumerate_steps, filter_source, filter_callee, filter_steps}
use Rattle.std.specs.declared.slice.Iter.{Iter}
use Rattle.std.specs.declared.iter.Enumerate.{Enumerate}
use Rattle.std.specs.declared.iter.Filter.{Filter}
use Rattle.std.proofs.iter.Yields.{fronts}
use denote.Param.Members.{Mut}
use denote.Ref.{Bor}

-- picking and a function in either order
picked_of : {A B : Type 0} (h : A → B) (o : Ordering) (a b : A) → h (min_by_ordering o a b) ≡ min_by_ordering o (h a) (h b)
picked_of h Less a b = refl
picked_of h Equal a b = refl
picked_of h Greater a b = refl

abbrev pick : {A : Type 0} → (A → ℕ) → A → A → A
pick key a b = min_by_ordering (nat_cmp (key a) (key b)) a b

module _ {A F : Type 0} (g : Mut F (Bor A × Unit {0}) ℕ) (f : F) (key : A → ℕ) (calls : (x : A) (k : ℕ) (q : F) → CalledAt g f x k q → (q ≡ f) × (k ≡ key x)) where
  turns : (xs : List A) (p q : (F × ℕ) × A) → p.0.0 ≡ f → p.0.1 ≡ key p.1 → FoldsTo (KeyTurn min_by_ordering min_by_ordering g nat_cmp) p xs q
      → FoldsTo (λ a b c. c ≡ pick key a b) p.1 xs q.1
  turns [] p q same is h = ap (λ t. t.1) h
  turns (x ∷ xs) p q same is h =
      let j = h.0 in
      let turn = h.1 in
      let called = calls x turn.0 j.0.0 (subst (λ e. CalledAt g e x turn.0 j.0.0) same turn.2) in
      let order : turn.1 ≡ nat_cmp (key p.1) (key x) = sym turn.3 ∙ ap (λ k. nat_cmp k turn.0) is ∙ ap (nat_cmp (key p.1)) called.1 in
      let keyed : j.0.1 ≡ key j.1 =
      turn.4
      ∙ ap (λ k. min_by_ordering turn.1 k turn.0) is
      ∙ ap (min_by_ordering turn.1 (key p.1)) called.1
      ∙ sym (picked_of key turn.1 p.1 x)
      ∙ ap key (sym turn.5) in
      (j.1, turn.5 ∙ ap (λ o. min_by_ordering o p.1 x) order, turns xs j q called.0 keyed h.2)

  module _ {S : Type 0} (steps : S → Option A → S → Type 0) (s : S) where
    reduced : (r : Option A) → PicksMinByKey steps g nat_cmp s f r
        → MatchOption r (Drains steps s []) (λ y. (x : A) × (xs : List A) × Drains steps s (x ∷ xs) × FoldsTo (λ a b c. c ≡ pick key a b) x xs y)
    reduced None h = h
    reduced (Some y) h =
        let called = calls h.0 h.2 h.3 h.6 in
        (h.0, h.1, h.5, turns h.1 ((h.3, h.2), h.0) (h.4, y) called.0 called.1 h.7)

-- where v reads each item, and each call of the closure gives the key of what v reads
pub least_from_picks : {S A B F : Type 0} {steps : S → Option A → S → Type 0} {v : A → B} {s : S} {all : List B} {g : Mut F (Bor A × Unit {0}) ℕ} {f : F}
    (key : B → ℕ) (r : Option A) → PicksMinByKey steps g nat_cmp s f r → YieldsList steps v s all
    → ((x : A) (k : ℕ) (q : F) → CalledAt g f x k q → (q ≡ f) × (k ≡ key (v x)))
    → option_map v r ≡ reduce (pick key) all
least_from_picks {steps = steps} {v = v} {s = s} {g = g} {f = f} key r picks road calls =
    reduce_by_from_yields_List (pick (λ a. key (v a))) (pick key) s r (λ a b. picked_of v (nat_cmp (key (v a)) (key (v b))) a b)
    (reduced g f (λ a. key (v a)) calls steps s r picks) road

-- ---- the server with room of the least key

pick_is : (key : ℕ → ℕ) (a b : ℕ × ℕ) → pick (λ s. key s.1) a b ≡ lesser key a b
pick_is key a b = ⊎_elim
    (λ less. ap (λ o. min_by_ordering o a b) (sym (nat_cmp_is (key a.1) (key b.1) Greater less)) ∙ sym (cond-true _ b a (lt-ltb _ _ less)))
    (λ kept.
    ⊎_elim
    (λ same. ap (λ o. min_by_ordering o a b) (sym (nat_cmp_is (key a.1) (key b.1) Equal same)))
    (λ other. ap (λ o. min_by_ordering o a b) (sym (nat_cmp_is (key a.1) (key b.1) Less (omega arith))))
    (cases_eq (key a.1) (key b.1))
    ∙ sym (cond-false _ b a (le-ltb _ _ kept)))
    (cases_lt (key b.1) (key a.1))

least_is : (key : ℕ → ℕ) (used : List ℕ) (unit rate : ℕ) (r : Option (ℕ × Bor ℕ))
    → option_map (λ s. (s.0, s.1.now)) r ≡ reduce (pick (λ s. key s.1)) (with_room used unit rate) → option_map (λ s. s.0) r ≡ least key used unit rate
least_is key used unit rate r picked =
    number r
    ∙ ap (option_map (λ s. s.0)) picked
    ∙ (λ t. option_map (λ s. s.0) (reduce (λ a b. pick_is key a b t) (with_room used unit rate)))
  where
    number : (o : Option (ℕ × Bor ℕ)) → option_map (λ s. s.0) o ≡ option_map {T = ℕ × ℕ} (λ s. s.0) (option_map (λ s. (s.0, s.1.now)) o)
    number None = refl
    number (Some s) = refl

-- the servers of a slice, with their numbers, of which the closures take those with room and give the key
pub least_fit : {F G : Type 0} {test : Mut F (Bor (ℕ × Bor ℕ) × Unit {0}) Bool} {fits : F} {keys : Mut G (Bor (ℕ × Bor ℕ) × Unit {0}) ℕ} {by : G}
    (key : ℕ → ℕ) (used : List ℕ) (unit rate : ℕ) (servers : Iter ℕ) (numbered : Enumerate (Iter ℕ)) (left : Filter (Enumerate (Iter ℕ)) F)
    (r : Option (ℕ × Bor ℕ)) → iter_rest servers ≡ used → enumerate_source numbered ≡ servers → enumerate_count numbered ≡ 0
    → filter_source left ≡ numbered → filter_callee left ≡ fits
    → PicksMinByKey (filter_steps (enumerate_steps fronts) test) keys nat_cmp left by r
    → ((x : ℕ × Bor ℕ) (b : Bool) (q : F) → CalledAt test fits x b q → (q ≡ fits) × (b ≡ nat_le (x.1.now + rate) unit))
    → ((x : ℕ × Bor ℕ) (k : ℕ) (q : G) → CalledAt keys by x k q → (q ≡ by) × (k ≡ key x.1.now))
    → option_map (λ s. s.0) r ≡ least key used unit rate
least_fit {test = test} key used unit rate servers numbered left r rest source count filtered callee picks tests calls =
    least_is key used unit rate r
    (least_from_picks (λ s. key s.1) r picks
    (YieldsList-from_filter test (λ s. nat_le (s.1 + rate) unit)
    (YieldsList-at filtered (YieldsList-from_enumerate (YieldsList-at source (YieldsList-from_slice used rest)) count)) callee tests)
    calls)
