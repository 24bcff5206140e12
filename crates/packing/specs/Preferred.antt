-- The rules of `specs/Rules.antt` keep the law of a fitting rule and name what they should. Assumes nothing.
use Rattle.std.specs.Prelude.{◌≡◌, ℕ, zero, suc, ◌+◌, ◌-◌, ◌<◌, ◌≤◌, Bool, cond, List, [], ◌∷◌, length, drop, Some, None, Option, filter, nat_le, slice_index}
use Rattle.std.specs.List.{enumerate_from, fold, position_or_len, reduce}
use Rattle.std.specs.Option.{option_map}
use Rattle.std.proofs.Common.{ap, sym, ◌∙◌, subst, inl, inr, ⊎_elim, arith}
use Rattle.std.proofs.lemmas.List.{at_drop_more, at_drop_all}
use Rattle.std.proofs.lemmas.List.Sums.{fails_before_first, passes_at_first}
use Rattle.std.proofs.lemmas.Bool.{cases_eq, cases_lt, cond-true, cond-false, le-leb, lt-leb, lt-ltb, le-ltb, leb-true, true≢false}
use Rattle.packing.specs.Fitting.{Room, Names, Lawful}
use Rattle.packing.specs.Rules.{IsFirstFit, IsBestFit, IsWorstFit, first_fit, lesser, least, best_fit, worst_fit}

module _ (key : ℕ → ℕ) (used : List ℕ) (unit rate : ℕ) where
  abbrev at : ℕ → ℕ
  at k = key (slice_index used k)

  abbrev server : ℕ → ℕ × ℕ
  server k = (k, slice_index used k)

  -- ---- the best of the servers before i

  -- b is the best of the servers with room before i, and better than each before it
  pub record Best (i b : ℕ) : Type 0 where
    pub room : Room used unit rate b
    pub best : (k : ℕ) → k < i → Room used unit rate k → at b ≤ at k
    pub first : (k : ℕ) → k < b → Room used unit rate k → at b < at k

  -- no server before i has room
  abbrev NoRoom : ℕ → Type 0
  NoRoom i = (k : ℕ) → k < i → Room used unit rate k → ⊥

  none_more : (i : ℕ) → NoRoom i → (Room used unit rate i → ⊥) → NoRoom (i + 1)
  none_more i none full k below room = ⊎_elim (λ same. full (subst (Room used unit rate) same room)) (λ other. none k (omega arith) room) (cases_eq k i)

  best_first : (i : ℕ) → NoRoom i → Room used unit rate i → Best (i + 1) i
  best_first i none room = record {
    room = room;
    best = λ k below room'. ⊎_elim (λ same. subst (λ n. at i ≤ at n) (sym same) (omega arith)) (λ other. absurd (none k (omega arith) room')) (cases_eq k i);
    first = λ k below room'. absurd (none k below room');
  }

  best_kept : (i b : ℕ) → Best i b → (Room used unit rate i → at b ≤ at i) → Best (i + 1) b
  best_kept i b before behind = record {
    room = before.room;
    best = λ k below room. ⊎_elim
        (λ same. subst (λ n. at b ≤ at n) (sym same) (behind (subst (Room used unit rate) same room)))
        (λ other. before.best k (omega arith) room)
        (cases_eq k i);
    first = before.first;
  }

  best_taken : (i b : ℕ) → Best i b → Room used unit rate i → at i < at b → Best (i + 1) i
  best_taken i b before room ahead = record {
    room = room;
    best = λ k below room'. ⊎_elim
        (λ same. subst (λ n. at i ≤ at n) (sym same) (omega arith))
        (λ other. omega (arith, before.best k (omega arith) room'))
        (cases_eq k i);
    first = λ k below room'. omega (arith, before.best k below room');
  }

  -- ---- the pass over the servers with room

  -- those from server i on
  abbrev rest : ℕ → List (ℕ × ℕ)
  rest i = filter (λ s. nat_le (s.1 + rate) unit) (enumerate_from i (drop i used))

  rest_all : (i : ℕ) → length used ≤ i → rest i ≡ []
  rest_all i end = at_drop_all (λ xs. filter (λ s. nat_le (s.1 + rate) unit) (enumerate_from i xs)) used i end

  rest_more : (i : ℕ) → i < length used → rest i ≡ cond (nat_le (slice_index used i + rate) unit) (server i ∷ rest (i + 1)) (rest (i + 1))
  rest_more i below = at_drop_more (λ xs. filter (λ s. nat_le (s.1 + rate) unit) (enumerate_from i xs)) used i 0 below

  rest_full : (i : ℕ) → i < length used → unit < slice_index used i + rate → rest i ≡ rest (i + 1)
  rest_full i below full = rest_more i below ∙ cond-false _ (server i ∷ rest (i + 1)) (rest (i + 1)) (lt-leb _ _ full)

  rest_room : (i : ℕ) → Room used unit rate i → rest i ≡ server i ∷ rest (i + 1)
  rest_room i room = rest_more i room.0 ∙ cond-true _ (server i ∷ rest (i + 1)) (rest (i + 1)) (le-leb _ _ room.1)

  -- what is left, where b is the best so far
  abbrev Ends : ℕ → ℕ → Type 0
  Ends i b = (j : ℕ) × (fold (lesser key) (server b) (rest i) ≡ server j) × Best (length used) j

  pass : (n i b : ℕ) → i + n ≡ length used → Best i b → Ends i b
  pass zero i b e before = (b, ap (fold (lesser key) (server b)) (rest_all i (omega arith)), subst (λ m. Best m b) (omega arith) before)
  pass (suc n) i b e before = ⊎_elim
      (λ full.
      let next = pass n (i + 1) b (omega arith) (best_kept i b before (λ room. absurd (omega (arith, room.1)))) in
      (next.0, ap (fold (lesser key) (server b)) (rest_full i (omega arith) full) ∙ next.1, next.2))
      (λ fits.
      let room : Room used unit rate i = (omega arith, omega arith) in
      let here : fold (lesser key) (server b) (rest i) ≡ fold (lesser key) (lesser key (server b) (server i)) (rest (i + 1)) =
      ap (fold (lesser key) (server b)) (rest_room i room) in
      ⊎_elim
      (λ ahead.
      let next = pass n (i + 1) i (omega arith) (best_taken i b before room ahead) in
      (next.0, here ∙ ap (λ s. fold (lesser key) s (rest (i + 1))) (cond-true _ (server i) (server b) (lt-ltb _ _ ahead)) ∙ next.1, next.2))
      (λ behind.
      let next = pass n (i + 1) b (omega arith) (best_kept i b before (λ _. behind)) in
      (next.0, here ∙ ap (λ s. fold (lesser key) s (rest (i + 1))) (cond-false _ (server i) (server b) (le-ltb _ _ behind)) ∙ next.1, next.2))
      (cases_lt (at i) (at b)))
      (cases_lt unit (slice_index used i + rate))

  -- ---- what the answer is

  abbrev Answers : Option ℕ → Type 0
  Answers None = NoRoom (length used)
  Answers (Some j) = Best (length used) j

  abbrev first_of : List (ℕ × ℕ) → Option ℕ
  first_of ss = option_map (λ s. s.0) (reduce (lesser key) ss)

  pass_all : (n i : ℕ) → i + n ≡ length used → NoRoom i → Answers (first_of (rest i))
  pass_all zero i e none = subst (λ ss. Answers (first_of ss)) (sym (rest_all i (omega arith))) (subst NoRoom (omega arith) none)
  pass_all (suc n) i e none = ⊎_elim
      (λ full.
      subst (λ ss. Answers (first_of ss)) (sym (rest_full i (omega arith) full))
      (pass_all n (i + 1) (omega arith) (none_more i none (λ room. absurd (omega (arith, room.1))))))
      (λ fits.
      let room : Room used unit rate i = (omega arith, omega arith) in
      let end = pass n (i + 1) i (omega arith) (best_first i none room) in
      subst (λ ss. Answers (first_of ss)) (sym (rest_room i room)) (subst (λ s. Best (length used) s.0) (sym end.1) end.2))
      (cases_lt unit (slice_index used i + rate))

  answers : Answers (least key used unit rate)
  answers = pass_all (length used) 0 (omega arith) (λ k below room. omega arith)

  -- whatever follows for the best server holds of the answer
  names : (P : ℕ → Type 0) → ((j : ℕ) → Best (length used) j → P j) → Names used unit rate P (least key used unit rate)
  names P follows = named (least key used unit rate) answers
    where
      named : (o : Option ℕ) → Answers o → Names used unit rate P o
      named None none = λ j room. none j room.0 room
      named (Some j) best = (best.room, follows j best)

-- ---- the three rules

module _ (used : List ℕ) (unit rate : ℕ) where
  abbrev fits : ℕ → Bool
  fits x = nat_le (x + rate) unit

  abbrev first : ℕ
  first = position_or_len fits used

  full_before : (k : ℕ) → k < first → Room used unit rate k → ⊥
  full_before k before room = true≢false (sym (le-leb _ _ room.1) ∙ fails_before_first fits used k 0 before)

  pub first_fit_names : IsFirstFit used unit rate (first_fit used unit rate)
  first_fit_names = ⊎_elim
      (λ some.
      subst (IsFirstFit used unit rate) (sym (cond-true _ (Some first) None (lt-ltb _ _ some)))
      ((some, leb-true _ _ (passes_at_first fits used 0 some)), λ k room. ⊎_elim (λ before. absurd (full_before k before room)) (λ (after : first ≤ k). after) (cases_lt k first)))
      (λ none.
      subst (IsFirstFit used unit rate) (sym (cond-false _ (Some first) None (le-ltb _ _ none))) (λ k room. full_before k (omega (arith, room.0)) room))
      (cases_lt first (length used))

pub best_fit_names : (used : List ℕ) (unit rate : ℕ) → IsBestFit used unit rate (best_fit used unit rate)
best_fit_names used unit rate =
    names (λ x. unit - x) used unit rate _ (λ j b k room.
    let best = b.best k room.0 room in
    ⊎_elim
    (λ before. inl (b.first k before room))
    (λ (after : j ≤ k). ⊎_elim (λ less. inl less) (λ least. inr (omega arith, after)) (cases_lt (unit - slice_index used j) (unit - slice_index used k)))
    (cases_lt k j))

pub worst_fit_names : (used : List ℕ) (unit rate : ℕ) → IsWorstFit used unit rate (worst_fit used unit rate)
worst_fit_names used unit rate =
    names (λ x. x) used unit rate _ (λ j b k room.
    let best = b.best k room.0 room in
    ⊎_elim
    (λ before. inl (omega (arith, b.first k before room, room.1)))
    (λ (after : j ≤ k). ⊎_elim (λ less. inl (omega (arith, room.1))) (λ least. inr (omega arith, after)) (cases_lt (slice_index used j) (slice_index used k)))
    (cases_lt k j))

-- what is named has room, whatever else holds of it
lawful : (used : List ℕ) (unit rate : ℕ) (P : ℕ → Type 0) (o : Option ℕ) → Names used unit rate P o → Names used unit rate (λ _. Unit {0}) o
lawful used unit rate P None none = none
lawful used unit rate P (Some j) named = (named.0, tt)

pub first_fit_lawful : Lawful first_fit
first_fit_lawful used unit rate = lawful used unit rate _ (first_fit used unit rate) (first_fit_names used unit rate)

pub best_fit_lawful : Lawful best_fit
best_fit_lawful used unit rate = lawful used unit rate _ (best_fit used unit rate) (best_fit_names used unit rate)

pub worst_fit_lawful : Lawful worst_fit
worst_fit_lawful used unit rate = lawful used unit rate _ (worst_fit used unit rate) (worst_fit_names used unit rate)
