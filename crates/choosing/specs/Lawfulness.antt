-- A rule that names the first unbeaten client is lawful, where before the deadline of that client more is brought than is needed. Assumes nothing.
use Rattle.std.specs.Prelude.{◌≡◌, ℕ, ◌<◌, ◌≤◌, Bool, true, false, T, ◌⊎◌, List, length, Some, None, Option, position}
use Rattle.std.proofs.Common.{sym, subst, inl, inr, arith}
use Rattle.std.proofs.lemmas.Int.{ints}
use Rattle.std.specs.Int.Signed.{lt_z_yes}
use Rattle.std.specs.Cmp.{IsStrictWeakOrder}
use Rattle.std.proofs.lemmas.Bool.{cases_lt, cases_Bool, both_ways, lt-ltb, le-ltb, cond-true, cond-false, ltb-false, ltb-true}
use Rattle.std.proofs.lemmas.List.MinMax.{IsStrictWeakOrder-by_number}
use Rattle.choosing.specs.declared.share.Share.{Share}
use Rattle.choosing.specs.Balance.{at, demand, supply, Loosely}
use Rattle.choosing.specs.Choosing.{HasLeft, Names, Lawful}
use Rattle.choosing.specs.Rules.{IsEarliestDeadline, IsLeastSlack, unbeaten, first_unbeaten, sooner, tighter, earliest_deadline, least_slack}
use Rattle.choosing.specs.Balances.{spent_balanced, earliest_spare, least_spare}
use Rattle.choosing.specs.Bests.{Leads, Best, first_is_best}
use Rattle.choosing.specs.Slacks.{tighter_false, same_slack}

-- ---- what is named is the best of at most 80

module _ (beats : Share → Share → Bool) (cs : List Share) where
  pub many_none : 80 < length cs → first_unbeaten beats cs ≡ None
  many_none many = cond-true _ _ _ (lt-ltb 80 (length cs) many)

  pub few_first : length cs ≤ 80 → first_unbeaten beats cs ≡ position (unbeaten beats cs) cs
  few_first few = cond-false _ _ _ (le-ltb 80 (length cs) few)

module _ {beats : Share → Share → Bool} (ranks : IsStrictWeakOrder beats) (cs : List Share) where
  -- what holds of a leading client holds of the one named
  pub names_leader : (P : ℕ → Type 0) → ((j : ℕ) → Leads beats cs (length cs) j → P j) → Names cs P (first_unbeaten beats cs)
  names_leader P each = elim (cases_lt 80 (length cs)) [
    | inl many ↦ subst (Names cs P) (sym (many_none beats cs many)) (inr many)
    | inr few ↦ subst (Names cs P) (sym (few_first beats cs few)) (from (position (unbeaten beats cs) cs) few (first_is_best ranks cs))
  ]
    where
      from : (answer : Option ℕ) → length cs ≤ 80 → Best beats cs (length cs) answer → Names cs P answer
      from None few b = inl (λ k has. omega (arith, b k has.0, has.1))
      from (Some j) few b = (few, (b.within, b.left), each j b)

  pub named_leads : (j : ℕ) → first_unbeaten beats cs ≡ Some j → (length cs ≤ 80) × Leads beats cs (length cs) j
  named_leads j e =
      let told = subst (Names cs (Leads beats cs (length cs))) e (names_leader (Leads beats cs (length cs)) (λ _ b. b)) in
      (told.0, told.2)

-- A leader beats each client with left, or is as good and comes first.
pub leads_first : {beats : Share → Share → Bool} {cs : List Share} {j : ℕ} → Leads beats cs (length cs) j → (k : ℕ) → HasLeft cs k
    → (beats (at cs j) (at cs k) ≡ true) ⊎ ((beats (at cs j) (at cs k) ≡ false) × (beats (at cs k) (at cs j) ≡ false) × (j ≤ k))
leads_first {beats} {cs} {j} b k has = elim (cases_Bool (beats (at cs j) (at cs k))) [
  | inl won ↦ inl won
  | inr lost ↦ inr (
    lost,
    b.ahead k has.0 has.1,
    elim (cases_lt k j) [
      | inl before ↦ absurd (both_ways (beats (at cs j) (at cs k)) lost (b.first k before has.1))
      | inr after ↦ after
    ],
  )
]

-- ---- the two rules rank the clients

pub ranks_sooner : IsStrictWeakOrder sooner
ranks_sooner = IsStrictWeakOrder-by_number (λ (c : Share). c.deadline)

pub ranks_tighter : (s : Share) → IsStrictWeakOrder (tighter s)
ranks_tighter s = record { one_way = λ x y e. grind (arith, ints); chain = λ x y z e f. grind (arith, ints) }

-- ---- they name whom their names say

pub earliest_deadline_names : (s : Share) (cs : List Share) → IsEarliestDeadline cs (earliest_deadline s cs)
earliest_deadline_names s cs = names_leader ranks_sooner cs _ (λ j b k has. elim (leads_first b k has) [
  | inl won ↦ inl (ltb-true (at cs j).deadline (at cs k).deadline won)
  | inr same ↦ inr (omega (arith, ltb-false (at cs j).deadline (at cs k).deadline same.0, ltb-false (at cs k).deadline (at cs j).deadline same.1), same.2)
])

pub least_slack_names : (s : Share) (cs : List Share) → IsLeastSlack s cs (least_slack s cs)
least_slack_names s cs = names_leader (ranks_tighter s) cs _ (λ j b k has. elim (leads_first b k has) [
  | inl won ↦ inl (lt_z_yes (subst (λ t. T t) (sym won) tt))
  | inr same ↦ inr (same_slack s (at cs j) (at cs k) same.0 same.1, same.2)
])

-- ---- and they are lawful

-- Before the deadline of a leader the server brings more than is needed.
abbrev Spares : (Share → Share → Share → Bool) → Type 0
Spares beats =
    (s : Share) (cs : List Share) (j : ℕ) → Loosely s cs → 1 ≤ s.left → Leads (beats s) cs (length cs) j
    → (D : ℕ) → s.deadline ≤ D → D < (at cs j).deadline → demand cs D < supply s D

lawful_by : (beats : Share → Share → Share → Bool) → ((s : Share) → IsStrictWeakOrder (beats s)) → Spares beats → Lawful (λ s cs. first_unbeaten (beats s) cs)
lawful_by beats ranks spares s cs = names_leader (ranks s) cs _
    (λ j leads b run. spent_balanced s cs j run (leads.within, leads.left) (spares s cs j b.loosely run leads) b)

pub earliest_deadline_lawful : Lawful earliest_deadline
earliest_deadline_lawful = lawful_by (λ _. sooner) (λ _. ranks_sooner)
    (λ s cs j b run leads. earliest_spare s cs j b run (λ k has. ltb-false (at cs k).deadline (at cs j).deadline (leads.ahead k has.0 has.1)))

pub least_slack_lawful : Lawful least_slack
least_slack_lawful = lawful_by tighter ranks_tighter
    (λ s cs j b run leads. least_spare s cs j b run leads.within (λ k has. tighter_false s (at cs k) (at cs j) (leads.ahead k has.0 has.1)))
