-- The law of a fitting rule, answer by answer. Assumes nothing.
use Rattle.std.proofs.Common.{◌≡◌, ℕ, ◌+◌, ◌<◌, List, length, get_or, Some, None, subst, ⊎_elim}
use Rattle.std.proofs.lemmas.Bool.{cases_lt}
use Rattle.packing.specs.Fitting.{Rule, Room, Names, Lawful}

module _ (rule : Rule) (lawful : Lawful rule) (used : List ℕ) (unit rate : ℕ) where
  -- a named server has room
  pub named_room : (j : ℕ) → rule used unit rate ≡ Some j → Room used unit rate j
  named_room j e = (subst (Names used unit rate (λ _. Unit {0})) e (lawful used unit rate)).0

  -- where none is named, every open server is too full
  pub none_room : rule used unit rate ≡ None → (j : ℕ) → j < length used → unit < get_or used j 0 + rate
  none_room e j below =
      ⊎_elim (λ full. full) (λ fits. absurd (subst (Names used unit rate (λ _. Unit {0})) e (lawful used unit rate) j (below, fits))) (cases_lt unit (get_or used j 0 + rate))
