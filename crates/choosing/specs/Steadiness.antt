-- Earliest deadline goes on with the client that it named. Assumes nothing.
use Rattle.std.specs.Prelude.{ℕ, ◌≤◌, List, length, Some, nat_lt}
use Rattle.std.proofs.Common.{sym, ap₂, ◌∙◌, arith, length-set}
use Rattle.choosing.specs.declared.share.Share.{Share}
use Rattle.choosing.specs.Balance.{at, spent_at}
use Rattle.choosing.specs.Choosing.{GoesOn}
use Rattle.choosing.specs.Rules.{sooner, earliest_deadline}
use Rattle.choosing.specs.Balances.{deadline_spent, left_spent}
use Rattle.choosing.specs.Bests.{Leads, best_is_first}
use Rattle.choosing.specs.Lawfulness.{few_first, named_leads, ranks_sooner}

spent_leads : (cs : List Share) (j : ℕ) → Leads sooner cs (length cs) j → 1 ≤ (at (spent_at cs j) j).left → Leads sooner (spent_at cs j) (length (spent_at cs j)) j
spent_leads cs j b more = record {
  within = rw length-set b.within;
  left = more;
  ahead = λ k h has. ap₂ nat_lt (deadline_spent cs j k) (deadline_spent cs j j) ∙ b.ahead k (rw length-set at h) (omega (arith, left_spent cs j k));
  first = λ k before has. ap₂ nat_lt (deadline_spent cs j j) (deadline_spent cs j k) ∙ b.first k before (omega (arith, left_spent cs j k));
}

pub earliest_deadline_goes_on : GoesOn earliest_deadline
earliest_deadline_goes_on s cs j e more =
    let told = named_leads ranks_sooner cs j e in
    let few : length (spent_at cs j) ≤ 80 = rw length-set told.0 in
    few_first sooner (spent_at cs j) few ∙ sym (best_is_first sooner (spent_at cs j) (Some j) (spent_leads cs j told.1 more))
