-- What is written into the core list. Assumes nothing.
use Rattle.std.proofs.Common.{◌≡◌, ℕ, zero, suc, ◌+◌, ◌<◌, ◌≤◌, true, List, [], ◌∷◌, ◌++◌, length, get_or, take, drop, set, Some, None, Option, sym, refl, ap, ◌∙◌, subst, ⊎_elim, arith}
use Rattle.std.proofs.lemmas.List.{append_assoc, at_drop_more, at_drop_all, take_more, take_more_set, drop-set-lt, set_past, take_all, get_or-take, length-take-le}
use Rattle.std.proofs.lemmas.Bool.{cases_lt}
use Rattle.cores.specs.declared.place.Cores.{Cores}
use Rattle.cores.specs.Laws.{On, Fitting, Lawful, Listed}
use Rattle.cores.specs.Naming.{member, Names}
use Rattle.cores.specs.Placing.{Slots, put, written}
use Rattle.cores.proofs.Frees.{some_not_none}
use Rattle.cores.proofs.Members.{at_member, different_at, member_at, same_test}
use Rattle.cores.proofs.Seats.{some_same}

written_short : (slots : Slots) → written slots [] ≡ []
written_short [] = refl
written_short (s ∷ slots) = refl

-- ---- one core more
module _ (slots : Slots) (core : ℕ) (within : core < length slots) where
  pub write_more : (list : List ℕ) →
      take (core + 1) (put list core (get_or slots core None)) ++ written (drop (core + 1) slots) (drop (core + 1) (put list core (get_or slots core None))) ≡ take core list ++ written (drop core slots) (drop core list)
  write_more list =
      ⊎_elim (λ fits. one (get_or slots core None) fits) (λ past. over (get_or slots core None) past) (cases_lt core (length list))
      ∙ sym (at_drop_more (λ l. take core list ++ written l (drop core list)) slots core None within)
    where
      one : (o : Option ℕ) → core < length list →
          take (core + 1) (put list core o) ++ written (drop (core + 1) slots) (drop (core + 1) (put list core o)) ≡ take core list ++ written (o ∷ drop (core + 1) slots) (drop core list)
      one None fits =
          ap (λ l. l ++ written (drop (core + 1) slots) (drop (core + 1) list)) (take_more list core 0 fits)
          ∙ append_assoc (take core list) _ _
          ∙ sym (at_drop_more (λ l. take core list ++ written (None ∷ drop (core + 1) slots) l) list core 0 fits)
      one (Some t) fits =
          ap (λ l. l ++ written (drop (core + 1) slots) (drop (core + 1) (set list core t))) (take_more_set list core t fits)
          ∙ append_assoc (take core list) _ _
          ∙ ap (λ l. take core list ++ (t ∷ written (drop (core + 1) slots) l)) (drop-set-lt (core + 1) list core t (omega arith))
          ∙ sym (at_drop_more (λ l. take core list ++ written (Some t ∷ drop (core + 1) slots) l) list core 0 fits)

      same : (o : Option ℕ) → length list ≤ core → put list core o ≡ list
      same None past = refl
      same (Some t) past = set_past list core t past

      over : (o : Option ℕ) → length list ≤ core →
          take (core + 1) (put list core o) ++ written (drop (core + 1) slots) (drop (core + 1) (put list core o)) ≡ take core list ++ written (o ∷ drop (core + 1) slots) (drop core list)
      over o past =
          ap (λ l. take (core + 1) l ++ written (drop (core + 1) slots) (drop (core + 1) l)) (same o past)
          ∙ at_drop_all (λ l. take (core + 1) list ++ written (drop (core + 1) slots) l) list (core + 1) (omega arith)
          ∙ ap (λ l. take (core + 1) list ++ l) (written_short (drop (core + 1) slots))
          ∙ ap (λ l. l ++ []) (take_all (core + 1) list (omega arith) ∙ sym (take_all core list past))
          ∙ sym (at_drop_all (λ l. take core list ++ written (o ∷ drop (core + 1) slots) l) list core past ∙ ap (λ l. take core list ++ l) (written_short (o ∷ drop (core + 1) slots)))

-- ---- what the list shows
pub length_written : (slots : Slots) (list : List ℕ) → length (written slots list) ≡ length list
length_written [] list = refl
length_written (s ∷ slots) [] = refl
length_written (None ∷ slots) (n ∷ list) = ap suc (length_written slots list)
length_written (Some t ∷ slots) (n ∷ list) = ap suc (length_written slots list)

written_shows : (slots : Slots) (list : List ℕ) (t c : ℕ) → get_or slots c None ≡ Some t → c < length list → get_or (written slots list) c 0 ≡ t
written_shows [] list t c on h = absurd (some_not_none None t on refl)
written_shows (s ∷ slots) [] t c on h = absurd (omega arith)
written_shows (None ∷ slots) (n ∷ list) t zero on h = absurd (some_not_none None t on refl)
written_shows (Some u ∷ slots) (n ∷ list) t zero on h = some_same (Some u) u t refl on
written_shows (None ∷ slots) (n ∷ list) t (suc c) on h = written_shows slots list t c on (omega arith)
written_shows (Some u ∷ slots) (n ∷ list) t (suc c) on h = written_shows slots list t c on (omega arith)

-- cores without a task leave the list as it is
written_beyond : (n : ℕ) (slots : Slots) (list : List ℕ) → ((t c : ℕ) → get_or slots c None ≡ Some t → c < n) → drop n (written slots list) ≡ drop n list
written_beyond n [] list low = refl
written_beyond n (s ∷ slots) [] low = refl
written_beyond zero (None ∷ slots) (k ∷ list) low = ap (λ l. k ∷ l) (written_beyond 0 slots list (λ t c on. absurd (let h = low t (suc c) on in omega (arith, h))))
written_beyond zero (Some t ∷ slots) (k ∷ list) low = absurd (let h = low t 0 refl in omega (arith, h))
written_beyond (suc n) (None ∷ slots) (k ∷ list) low = written_beyond n slots list (λ t c on. let h = low t (suc c) on in omega (arith, h))
written_beyond (suc n) (Some t ∷ slots) (k ∷ list) low = written_beyond n slots list (λ u c on. let h = low u (suc c) on in omega (arith, h))

module _ {before : Cores} {named : List ℕ} {n : ℕ} {after : Cores} (laws : Lawful before named n after) (list : List ℕ) where
  module _ (fitting : Fitting named n) (enough : length named ≡ n) (room : n ≤ length list) where
    abbrev names : List ℕ
    names = take n (written after.held list)

    length_names : length names ≡ n
    length_names = length-take-le n (written after.held list) (omega (arith, length_written after.held list))

    -- each entry is the task of its core
    entry : (t c : ℕ) → On after t c → c < n → get_or names c 0 ≡ t
    entry t c on low = get_or-take n (written after.held list) c 0 low ∙ written_shows after.held list t c on (omega arith)

    entry_on : (c : ℕ) → c < n → On after (get_or names c 0) c
    entry_on c low =
        let busy = laws.all_busy fitting enough c low in
        busy.1 ∙ ap Some (sym (entry busy.0 c busy.1 low))

    names_all : Names (λ t. member t named) names
    names_all = (
      different_at names (λ c d h k e.
          laws.one_core (get_or names c 0) c d (entry_on c (omega (arith, length_names))) (entry_on d (omega (arith, length_names)) ∙ ap Some (sym e))),
      λ t. same_test (member t names) (member t named)
          (λ m.
          let at = member_at names t m in
          (laws.only_named t at.0 (entry_on at.0 (omega (arith, at.1, length_names)) ∙ ap Some at.2)).0)
          (λ m.
          let on = laws.all_placed fitting t m in
          subst (λ u. member u names ≡ true) (entry t on.0 on.2 on.1) (at_member names on.0 (omega (arith, on.1, length_names)))),
    )

  pub listed : Listed named n after list (written after.held list)
  listed = record {
    shows = written_shows after.held list;
    beyond = written_beyond n after.held list (λ t c on. (laws.only_named t c on).1);
    names = names_all;
  }
