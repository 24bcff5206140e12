-- What the answer of a lawful rule tells. Assumes nothing.
use Rattle.std.proofs.Common.{◌≡◌, ℕ, ◌≤◌, List, length, Some, None, subst, inl, inr, arith}
use Rattle.std.specs.List.{AllByRecursion}
use Rattle.std.proofs.ByRecursion.{All-from_get_or}
use Rattle.std.proofs.lemmas.Bool.{cases_lt}
use Rattle.choosing.specs.declared.share.Share.{Share}
use Rattle.choosing.specs.Balance.{nothing, at, Loosely}
use Rattle.choosing.specs.Choosing.{Rule, HasLeft, Names, KeepsBalance, Lawful}
use Rattle.choosing.specs.Demands.{not_idle}

-- Clients of which none can have left have nothing left.
idle_all : (cs : List Share) → ((k : ℕ) → HasLeft cs k → ⊥) → AllByRecursion (λ c. c.left ≡ 0) cs
idle_all cs never = All-from_get_or (λ c. c.left ≡ 0) cs nothing
    (λ k h. elim (cases_lt (at cs k).left 1) [ inl less ↦ omega arith | inr has ↦ absurd (never k (h, has)) ])

module _ (rule : Rule) (law : Lawful rule) (s : Share) (cs : List Share) where
  pub told_some : (k : ℕ) → rule s cs ≡ Some k → (length cs ≤ 80) × HasLeft cs k × KeepsBalance s cs k
  told_some k e = subst (Names cs (KeepsBalance s cs)) e (law s cs)

  -- A server with left and at most 80 clients is told one of them.
  pub never_none : Loosely s cs → 1 ≤ s.left → length cs ≤ 80 → rule s cs ≡ None → ⊥
  never_none b run few e = elim (subst (Names cs (KeepsBalance s cs)) e (law s cs)) [
    | inl never ↦ not_idle s cs b run (idle_all cs never)
    | inr many ↦ omega arith
  ]
