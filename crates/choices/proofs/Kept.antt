-- A tick given as a lawful rule says keeps the balance. Assumes nothing.
use Rattle.std.proofs.Common.{◌≡◌, ℕ, List, Some, None, Option, sym, refl, subst, inl, inr, arith}
use Rattle.std.proofs.ByRecursion.{All-from_get_or}
use Rattle.std.proofs.lemmas.Bool.{cases_lt}
use Rattle.choosing.specs.declared.share.Share.{Share}
use Rattle.choosing.specs.Balance.{nothing, at}
use Rattle.choosing.specs.Choosing.{Rule, Names, KeepsBalance, Lawful}
use Rattle.choosing.specs.Demands.{not_idle}
use Rattle.choices.specs.Served.{server_after, clients_after, StaysBalanced}

pub stays_balanced : (rule : Rule) → Lawful rule → (s : Share) (cs : List Share) (answer : Option ℕ) → answer ≡ rule s cs
    → StaysBalanced answer s cs (server_after answer s) (clients_after answer cs)
stays_balanced rule lawful s cs answer e = from answer (subst (Names cs (KeepsBalance s cs)) (sym e) (lawful s cs))
  where
    from : (answer : Option ℕ) → Names cs (KeepsBalance s cs) answer → StaysBalanced answer s cs (server_after answer s) (clients_after answer cs)
    from None (inl idle) b run few = absurd (not_idle s cs b.loosely run (All-from_get_or (λ c. c.left ≡ 0) cs nothing
        (λ k h. elim (cases_lt (at cs k).left 1) [ inl none ↦ omega arith | inr has ↦ absurd (idle k (h, has)) ])))
    from None (inr many) b run few = absurd (omega arith)
    from (Some k) told b run few = (refl, told.2 b run)
