-- A task put on a free core: who has a core before and after. Assumes nothing.
use Rattle.std.proofs.Common.{◌≡◌, ℕ, zero, suc, ◌<◌, true, false, cond, not, ◌&&◌, ltb, ◌⊎◌, List, [], ◌∷◌, length, get_or, set, replicate, Some, None, Option, sym, refl, ap, ◌∙◌, subst, inl, inr, arith}
use Rattle.std.proofs.lemmas.List.{get_or-set_same, get_or-set_other, length-set, set-get_or}
use Rattle.std.proofs.lemmas.Bool.{false≢true, and_from, and_parts, cases_eq, cond_both, eq-eqb, eqb-true, lt-ltb, ltb-true, ne_eqb, not-true}
use Rattle.cores.specs.declared.place.Cores.{Cores}
use Rattle.cores.specs.Laws.{On, LastOn}
use Rattle.cores.specs.Placing.{Slots, tables, claim, claims, first_free, has, is_none, is_task, seat, seated, settles, waits}
use Rattle.cores.proofs.Frees.{some_not_none}

pub some_same : (o : Option ℕ) (a b : ℕ) → o ≡ Some a → o ≡ Some b → a ≡ b
some_same o a b e f = cc

pub some_within : (xs : List (Option ℕ)) (i a : ℕ) → get_or xs i None ≡ Some a → i < length xs
some_within [] i a e = absurd (some_not_none None a e refl)
some_within (x ∷ xs) zero a e = omega arith
some_within (x ∷ xs) (suc i) a e = omega (arith, some_within xs i a e)

pub blank_slot : (m c : ℕ) → get_or {A = Option ℕ} (replicate m None) c None ≡ None
blank_slot zero c = refl
blank_slot (suc m) zero = refl
blank_slot (suc m) (suc c) = blank_slot m c

-- ---- a task is seated exactly if it is on its last core
pub seated_on : (s : Cores) (t c : ℕ) → LastOn s t c → On s t c → seated s t ≡ true
seated_on s t c last on = ap (has s.held t) last ∙ ap (λ o. is_task o t) on ∙ eq-eqb t t refl

pub on_seated : (s : Cores) (t : ℕ) → seated s t ≡ true → (c : ℕ) × LastOn s t c × On s t c
on_seated s t = last (get_or s.last t None) refl
  where
    on : (c : ℕ) (o : Option ℕ) → get_or s.held c None ≡ o → is_task o t ≡ true → On s t c
    on c None e f = absurd (false≢true f)
    on c (Some u) e f = e ∙ ap Some (sym (eqb-true t u f))

    last : (o : Option ℕ) → get_or s.last t None ≡ o → has s.held t o ≡ true → (c : ℕ) × LastOn s t c × On s t c
    last None e f = absurd (false≢true f)
    last (Some c) e f = (c, e, on c (get_or s.held c None) refl f)

pub free_unseated : (s : Cores) (t c : ℕ) → LastOn s t c → get_or s.held c None ≡ None → seated s t ≡ false
free_unseated s t c last gap = ap (has s.held t) last ∙ ap (λ o. is_task o t) gap

-- ---- a task is put on a free core
module _ (s : Cores) (t c : ℕ) where
  pub seat_seated : t < length s.last → c < length s.held → seated (seat s t c) t ≡ true
  seat_seated known within =
      seated_on (seat s t c) t c (get_or-set_same s.last t (Some c) None known) (get_or-set_same s.held c (Some t) None within)

  module _ (gap : get_or s.held c None ≡ None) where
    pub seat_keeps : (u d : ℕ) → On s u d → On (seat s t c) u d
    seat_keeps u d on = get_or-set_other s.held c d (Some t) None (λ e. some_not_none (get_or s.held d None) u on (ap (λ k. get_or s.held k None) e ∙ gap)) ∙ on

    pub seat_others : c < length s.held → (u : ℕ) → (u ≡ t → ⊥) → seated (seat s t c) u ≡ seated s u
    seat_others within u ne = ap (has (set s.held c (Some t)) u) (get_or-set_other s.last t u (Some c) None ne) ∙ at (get_or s.last u None)
      where
        at : (o : Option ℕ) → has (set s.held c (Some t)) u o ≡ has s.held u o
        at None = refl
        at (Some d) = elim (cases_eq d c) [
          | inl e ↦
              ap (λ k. is_task (get_or (set s.held c (Some t)) k None) u) e
              ∙ ap (λ o. is_task o u) (get_or-set_same s.held c (Some t) None within)
              ∙ ne_eqb u t ne
              ∙ sym (ap (λ k. is_task (get_or s.held k None) u) e ∙ ap (λ o. is_task o u) gap)
          | inr other ↦ ap (λ o. is_task o u) (get_or-set_other s.held c d (Some t) None other)
        ]

-- what is on a core after a task was put on one
pub set_on : (slots : Slots) (t c u d : ℕ) → get_or (set slots c (Some t)) d None ≡ Some u → ((u ≡ t) × (d ≡ c)) ⊎ ((d ≡ c → ⊥) × (get_or slots d None ≡ Some u))
set_on slots t c u d on = elim (cases_eq d c) [
  | inl e ↦
      let within = some_within (set slots c (Some t)) d u on in
      let here = get_or-set_same slots c (Some t) None (omega (arith, within, length-set slots c (Some t))) in
      inl (some_same (get_or (set slots c (Some t)) c None) u t (ap (λ k. get_or (set slots c (Some t)) k None) (sym e) ∙ on) here, e)
  | inr ne ↦ inr (ne, sym (get_or-set_other slots c d (Some t) None ne) ∙ on)
]

-- a task on its last core is recorded there already
pub seat_last : (last : List (Option ℕ)) (slots : Slots) (t c : ℕ) → get_or last t None ≡ Some c → seat (tables last slots) t c ≡ tables last (set slots c (Some t))
seat_last last slots t c e = ap (λ l. tables l (set slots c (Some t))) (ap (set last t) (sym e) ∙ set-get_or last t None)

-- ---- what a step does: nothing, or it puts the task on a free core
none_is : (o : Option ℕ) → is_none o ≡ true → o ≡ None
none_is None e = refl
none_is (Some t) e = absurd (false≢true e)

pub by_claims : (P : Slots → Type 0) (last : List (Option ℕ)) (n : ℕ) (slots : Slots) (t : ℕ) → P slots
    → ((c : ℕ) → get_or last t None ≡ Some c → c < n → get_or slots c None ≡ None → P (set slots c (Some t))) → P (claims last n slots t)
by_claims P last n slots t stays takes = go (get_or last t None) refl
  where
    go : (o : Option ℕ) → get_or last t None ≡ o → P (claim n slots t o)
    go None e = stays
    go (Some c) e = cond_both (ltb c n && is_none (get_or slots c None)) (set slots c (Some t)) slots P
        (λ free. let parts = and_parts (ltb c n) (is_none (get_or slots c None)) free in takes c e (ltb-true c n parts.0) (none_is _ parts.1))
        (λ _. stays)

pub by_settles : (P : Cores → Type 0) (n : ℕ) (s : Cores) (t : ℕ) → P s
    → (t < length s.last → seated s t ≡ false → first_free s.held < n → P (seat s t (first_free s.held))) → P (settles n s t)
by_settles P n s t stays takes = cond_both (waits s t && ltb (first_free s.held) n) (seat s t (first_free s.held)) s P
    (λ e.
    let parts = and_parts (waits s t) (ltb (first_free s.held) n) e in
    let wait = and_parts (ltb t (length s.last)) (not (seated s t)) parts.0 in
    takes (ltb-true t (length s.last) wait.0) (not-true (seated s t) wait.1) (ltb-true (first_free s.held) n parts.1))
    (λ _. stays)

-- ---- what a task that claims its last core brings about
-- something holds of each task on a core
abbrev pub OnAll : (task_and_core : ℕ → ℕ → Type 0) → Slots → Type 0
OnAll Q slots = (t c : ℕ) → get_or slots c None ≡ Some t → Q t c

module _ (last : List (Option ℕ)) (n : ℕ) (slots : Slots) (t : ℕ) where
  pub claims_all : (Q : ℕ → ℕ → Type 0) → OnAll Q slots → ((c : ℕ) → get_or last t None ≡ Some c → Q t c) → OnAll Q (claims last n slots t)
  claims_all Q all new = by_claims (OnAll Q) last n slots t all (λ c is _ _ u d on. elim (set_on slots t c u d on) [
    | inl here ↦ subst (λ u. Q u d) (sym here.0) (subst (Q t) (sym here.1) (new c is))
    | inr there ↦ all u d there.1
  ])

  pub claims_keeps : (u c : ℕ) → get_or slots c None ≡ Some u → get_or (claims last n slots t) c None ≡ Some u
  claims_keeps u c on = by_claims (λ s. get_or s c None ≡ Some u) last n slots t on (λ d _ _ gap. seat_keeps (tables last slots) t d gap u c on)

  -- its core is taken then: by it, or as before
  pub claims_turn : (c : ℕ) → get_or last t None ≡ Some c → c < n → c < length slots
      → (u : ℕ) × (get_or (claims last n slots t) c None ≡ Some u) × ((u ≡ t) ⊎ (get_or slots c None ≡ Some u))
  claims_turn c is low within = go (get_or slots c None) refl
    where
      go : (o : Option ℕ) → get_or slots c None ≡ o → (u : ℕ) × (get_or (claims last n slots t) c None ≡ Some u) × ((u ≡ t) ⊎ (get_or slots c None ≡ Some u))
      go None e = (
        t,
        ap (λ o. get_or (claim n slots t o) c None) is
            ∙ ap (λ b. get_or (cond b (set slots c (Some t)) slots) c None) (and_from (ltb c n) (is_none (get_or slots c None)) (lt-ltb c n low) (ap is_none e))
            ∙ get_or-set_same slots c (Some t) None within,
        inl refl,
      )
      go (Some u) e = (u, claims_keeps u c e, inr e)
