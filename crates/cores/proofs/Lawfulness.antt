-- The laws of a placing. Assumes nothing.
use Rattle.std.proofs.Common.{◌≡◌, ℕ, ◌+◌, ◌<◌, ◌≤◌, true, false, ◌⊎◌, List, ◌∷◌, ◌++◌, length, get_or, set, replicate, Some, None, fold, Option, sym, refl, ap, ◌∙◌, subst, inl, inr, arith}
use Rattle.std.proofs.lemmas.List.{get_or-set_other, get_or-set_same, length-replicate, length-set}
use Rattle.std.proofs.lemmas.Bool.{both_ways, cases_Bool, cases_lt, cond_both, cond-true}
use Rattle.cores.specs.declared.place.Cores.{Cores}
use Rattle.cores.specs.Laws.{On, LastOn, Recorded, Fitting, Lawful}
use Rattle.cores.specs.Naming.{member, Different}
use Rattle.cores.specs.Placing.{Slots, tables, claims, first_free, keeps, kept, placed_on, seat, seated, settles}
use Rattle.cores.proofs.Frees.{first_free_gap, some_not_none}
use Rattle.cores.proofs.Gaps.{gaps, gaps_blank, gaps_busy, gaps_full, gaps_set}
use Rattle.cores.proofs.Members.{all_member, by_folded, by_turn, count, count_all, count_full, count_most, count_none, count_one, folded_append}
use Rattle.cores.proofs.Seats.{OnAll, blank_slot, by_claims, by_settles, claims_all, claims_keeps, claims_turn, free_unseated, on_seated, seat_keeps, seat_last, seat_others, seat_seated, seated_on, set_on, some_same, some_within}
use Rattle.cores.proofs.Steps.{settles_free, settles_full, settles_seated}

-- ---- a task that has a core keeps it through each pass
claimed_keeps : (last : List (Option ℕ)) (n : ℕ) (slots : Slots) (ts : List ℕ) (t c : ℕ) → get_or slots c None ≡ Some t → get_or (fold (claims last n) slots ts) c None ≡ Some t
claimed_keeps last n slots ts t c on = by_folded (λ s. get_or s c None ≡ Some t) (claims last n) ts slots on (λ u s _. claims_keeps last n s u t c)

settled_keeps : (n : ℕ) (s : Cores) (ts : List ℕ) (t c : ℕ) → On s t c → On (fold (settles n) s ts) t c
settled_keeps n s ts t c on =
    by_folded (λ s. On s t c) (settles n) ts s on (λ u s _ here.
    by_settles (λ s. On s t c) n s u here (λ _ _ _. seat_keeps s u (first_free s.held) (first_free_gap s.held) t c here))

module _ (before : Cores) (named : List ℕ) (n m : ℕ) (few : n ≤ m) where
  abbrev start : Cores
  start = tables before.last (replicate m None)

  abbrev first : Slots
  first = fold (keeps before n) (replicate m None) named

  abbrev after : Cores
  after = placed_on before (replicate m None) named n

  -- ---- what holds at first, and each time a named task without a core is put on a free one
  pub record Midway (s : Cores) : Type 0 where
    pub slots : length s.held ≡ m
    pub tasks : length s.last ≡ length before.last
    pub recorded : Recorded s
    pub known : (t c : ℕ) → On s t c → (member t named ≡ true) × (c < n)
    pub others : (t : ℕ) → member t named ≡ false → get_or s.last t None ≡ get_or before.last t None
    pub counted : Different named → gaps n s.held + count (seated s) named ≡ n

  midway_start : Midway start
  midway_start = record {
    slots = length-replicate {A = Option ℕ} m None;
    tasks = refl;
    recorded = λ t c on. absurd (some_not_none _ t on (blank_slot m c));
    known = λ t c on. absurd (some_not_none _ t on (blank_slot m c));
    others = λ t _. refl;
    counted = λ _. omega (arith, gaps_blank n m few, count_none (seated start) named unseated);
  }
    where
      unseated : (t : ℕ) → seated start t ≡ false
      unseated t = elim (cases_Bool (seated start t)) [
        | inl e ↦ let at = on_seated start t e in absurd (some_not_none _ t at.2 (blank_slot m at.0))
        | inr e ↦ e
      ]

  midway_seat : (s : Cores) (t c : ℕ) → member t named ≡ true → t < length s.last → c < n → get_or s.held c None ≡ None → seated s t ≡ false → Midway s → Midway (seat s t c)
  midway_seat s t c is_named in_table low gap out b = record {
    slots = length-set s.held c (Some t) ∙ b.slots;
    tasks = length-set s.last t (Some c) ∙ b.tasks;
    recorded = λ u d on. elim (set_on s.held t c u d on) [
      | inl here ↦ ap (λ k. get_or (set s.last t (Some c)) k None) here.0 ∙ get_or-set_same s.last t (Some c) None in_table ∙ ap Some (sym here.1)
      | inr there ↦ get_or-set_other s.last t u (Some c) None (λ e. both_ways (seated s t) out (subst (λ k. seated s k ≡ true) e (seated_on s u d (b.recorded u d there.1) there.1))) ∙ b.recorded u d there.1
    ];
    known = λ u d on. elim (set_on s.held t c u d on) [
      | inl here ↦ (ap (λ k. member k named) here.0 ∙ is_named, omega (arith, here.1))
      | inr there ↦ b.known u d there.1
    ];
    others = λ u not_named.
        get_or-set_other s.last t u (Some c) None (λ e. both_ways (member u named) not_named (ap (λ k. member k named) e ∙ is_named)) ∙ b.others u not_named;
    counted = λ apart.
        omega (
          arith,
          b.counted apart,
          gaps_set n s.held c t low within gap,
          count_one (seated s) (seated (seat s t c)) t out (seat_seated s t c in_table within) (seat_others s t c gap within) named apart is_named,
        );
  }
    where
      within : c < length s.held
      within = omega (arith, b.slots)

  midway_claims : (slots : Slots) (t : ℕ) → member t named ≡ true → Midway (tables before.last slots) → Midway (tables before.last (claims before.last n slots t))
  midway_claims slots t is_named b =
      by_claims (λ s. Midway (tables before.last s)) before.last n slots t b (λ c last low gap.
      subst Midway (seat_last before.last slots t c last)
      (midway_seat (tables before.last slots) t c is_named (some_within before.last t c last) low gap (free_unseated (tables before.last slots) t c last gap) b))

  midway_first : Midway (tables before.last first)
  midway_first =
      by_folded (λ s. Midway (tables before.last s)) (keeps before n) named (replicate m None) midway_start (λ t s is_named b.
      cond_both (seated before t) (claims before.last n s t) s (λ s. Midway (tables before.last s)) (λ _. midway_claims s t is_named b) (λ _. b))

  midway_kept : Midway (tables before.last (kept before (replicate m None) named n))
  midway_kept = by_folded (λ s. Midway (tables before.last s)) (claims before.last n) named first midway_first (λ t s. midway_claims s t)

  midway_settles : (s : Cores) (t : ℕ) → member t named ≡ true → Midway s → Midway (settles n s t)
  midway_settles s t is_named b =
      by_settles Midway n s t b (λ in_table out low. midway_seat s t (first_free s.held) is_named in_table low (first_free_gap s.held) out b)

  pub midway_after : Midway after
  midway_after = by_folded Midway (settles n) named _ midway_kept (λ t s. midway_settles s t)

  -- ---- a task that stays
  module _ (Q : ℕ → ℕ → Type 0) (each : (t c : ℕ) → seated before t ≡ true → LastOn before t c → Q t c) where
    keeps_all : (t : ℕ) (slots : Slots) → OnAll Q slots → OnAll Q (keeps before n slots t)
    keeps_all t slots all =
        cond_both (seated before t) (claims before.last n slots t) slots (OnAll Q) (λ e. claims_all before.last n slots t Q all (λ c. each t c e)) (λ _. all)

    -- what holds of each task that stays holds of all that are on cores after the first pass
    first_all : OnAll Q first
    first_all = by_folded (OnAll Q) (keeps before n) named (replicate m None) (λ t c on. absurd (some_not_none _ t on (blank_slot m c))) (λ t s _. keeps_all t s)

  stayed : (t c : ℕ) → seated before t ≡ true → LastOn before t c → On before t c
  stayed t c e last =
      let at = on_seated before t e in
      ap (λ k. get_or before.held k None) (some_same _ c at.0 last at.1) ∙ at.2

  length_keeps : (t : ℕ) (slots : Slots) → length slots ≡ m → length (keeps before n slots t) ≡ m
  length_keeps t slots long =
      cond_both (seated before t) (claims before.last n slots t) slots (λ s. length s ≡ m)
      (λ _. by_claims (λ s. length s ≡ m) before.last n slots t long (λ c _ _ _. length-set slots c (Some t) ∙ long))
      (λ _. long)

  abbrev Early : Slots → Type 0
  Early slots = (length slots ≡ m) × OnAll (On before) slots

  keep : Recorded before → (t c : ℕ) → On before t c → member t named ≡ true → c < n → get_or first c None ≡ Some t
  keep recorded t c on is_named low =
      by_turn Early (λ s. get_or s c None ≡ Some t) (keeps before n) named t (replicate m None) is_named
      (length-replicate {A = Option ℕ} m None, λ u d e. absurd (some_not_none _ u e (blank_slot m d)))
      (λ u s _ b. (length_keeps u s b.0, keeps_all (On before) stayed u s b.1))
      (λ s b.
      let turn = claims_turn before.last n s t c (recorded t c on) low (omega (arith, b.0)) in
      let mine : turn.0 ≡ t = elim turn.2 [
        | inl e ↦ e
        | inr was ↦ some_same _ turn.0 t (b.1 turn.0 c was) on
      ] in
      ap (λ s. get_or s c None) (cond-true (seated before t) (claims before.last n s t) s (seated_on before t c (recorded t c on) on)) ∙ turn.1 ∙ ap Some mine)
      (λ u s _ b here.
      cond_both (seated before u) (claims before.last n s u) s (λ s. get_or s c None ≡ Some t) (λ _. claims_keeps before.last n s u t c here) (λ _. here))

  -- ---- a task that comes back
  -- a task stayed on the core, or was named earlier
  abbrev Whose : List ℕ → (task core : ℕ) → Type 0
  Whose earlier u d = On before u d ⊎ (member u earlier ≡ true)

  return : (earlier later : List ℕ) (t c : ℕ) → named ≡ earlier ++ t ∷ later → LastOn before t c → c < n
      → (u : ℕ) × (get_or (kept before (replicate m None) named n) c None ≡ Some u) × ((u ≡ t) ⊎ (On before u c ⊎ (member u earlier ≡ true)))
  return earlier later t c split last low =
      let step = claims before.last n in
      let now = fold step first earlier in
      let turn = claims_turn before.last n now t c last low (omega (arith, long)) in (
        turn.0,
        ap (λ ts. get_or (fold step first ts) c None) split
            ∙ ap (λ s. get_or s c None) (folded_append step first earlier (t ∷ later))
            ∙ claimed_keeps before.last n (step now t) later turn.0 c turn.1,
        elim turn.2 [
          | inl e ↦ inl e
          | inr was ↦ inr (whose turn.0 c was)
        ],
      )
    where
      long : length (fold (claims before.last n) first earlier) ≡ m
      long =
          by_folded (λ s. length s ≡ m) (claims before.last n) earlier first midway_first.slots (λ u s _ e.
          by_claims (λ s. length s ≡ m) before.last n s u e (λ d _ _ _. length-set s d (Some u) ∙ e))

      whose : OnAll (Whose earlier) (fold (claims before.last n) first earlier)
      whose =
          by_folded (OnAll (Whose earlier)) (claims before.last n) earlier first (first_all (Whose earlier) (λ u d e last. inl (stayed u d e last)))
          (λ u s is all. claims_all before.last n s u (Whose earlier) all (λ _ _. inr is))

  -- ---- every task
  -- after its turn in the third pass a task has a core, or no core is free
  abbrev Done : ℕ → Cores → Type 0
  Done t s = (seated s t ≡ true) ⊎ (n ≤ first_free s.held)

  done_turn : (t : ℕ) → t < length before.last → (s : Cores) → Midway s → Done t (settles n s t)
  done_turn t in_table s b = elim (cases_Bool (seated s t)) [
    | inl e ↦ subst (Done t) (sym (settles_seated n s t e)) (inl e)
    | inr out ↦ elim (cases_lt (first_free s.held) n) [
      | inl low ↦
          let known : t < length s.last = omega (arith, b.tasks) in
          let within : first_free s.held < length s.held = omega (arith, b.slots) in
          subst (Done t) (sym (settles_free n s t known out low)) (inl (seat_seated s t (first_free s.held) known within))
      | inr full ↦ subst (Done t) (sym (settles_full n s t full)) (inr full)
    ]
  ]

  done_more : (t u : ℕ) (s : Cores) → Midway s → Done t s → Done t (settles n s u)
  done_more t u s b done = by_settles (Done t) n s u done (λ known out low. elim done [
    | inl e ↦
        let within : first_free s.held < length s.held = omega (arith, b.slots) in
        let ne : t ≡ u → ⊥ = λ same. both_ways (seated s u) out (ap (seated s) (sym same) ∙ e) in
        inl (seat_others s u (first_free s.held) (first_free_gap s.held) within t ne ∙ e)
    | inr full ↦ absurd (omega arith)
  ])

  done : (t : ℕ) → t < length before.last → member t named ≡ true → Done t after
  done t in_table is_named =
      by_turn Midway (Done t) (settles n) named t (tables before.last (kept before (replicate m None) named n)) is_named midway_kept (λ u s. midway_settles s u)
      (done_turn t in_table) (λ u s _. done_more t u s)

  module _ (long : length before.last ≡ 80) (fitting : Fitting named n) where
    all_seated : (t : ℕ) → member t named ≡ true → seated after t ≡ true
    all_seated t is_named =
        let in_table : t < 80 = all_member (λ t. t < 80) named t fitting.tasks is_named in
        elim (done t (omega arith) is_named) [
          | inl e ↦ e
          | inr full ↦
              count_all (seated after) named t
              (omega (arith, gaps_full n after.held full, midway_after.counted fitting.different, count_most (seated after) named, fitting.enough))
              is_named
        ]

    pub no_gap : length named ≡ n → gaps n after.held ≡ 0
    no_gap e = omega (arith, e, midway_after.counted fitting.different, count_full (seated after) named all_seated)

  pub lawful : length before.last ≡ 80 → Lawful before named n after
  lawful long = record {
    keeps = λ recorded t c on is_named low. settled_keeps n _ named t c (claimed_keeps before.last n first named t c (keep recorded t c on is_named low));
    returns = λ earlier later t c split last low.
        let back = return earlier later t c split last low in
        (back.0, settled_keeps n _ named back.0 c back.1, back.2);
    only_named = midway_after.known;
    one_core = λ t c d on_c on_d. some_same _ c d (midway_after.recorded t c on_c) (midway_after.recorded t d on_d);
    recorded = midway_after.recorded;
    others = midway_after.others;
    all_placed = λ fitting t is_named.
        let at = on_seated after t (all_seated long fitting t is_named) in
        (at.0, (midway_after.known t at.0 at.2).1, at.2);
    all_busy = λ fitting e c low. gaps_busy n after.held c (no_gap long fitting e) low (omega (arith, midway_after.slots));
  }
