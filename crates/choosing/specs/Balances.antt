-- When a tick taken from a server and from one of its clients keeps the balance. Assumes nothing.
use Rattle.std.specs.Prelude.{◌≡◌, ℕ, zero, suc, ◌+◌, ◌*◌, ◌<◌, ◌≤◌, max, List, [], ◌∷◌, length, refl}
use Rattle.std.proofs.Common.{sym, ap, ◌∙◌, inl, inr, mul-le-mul_left, arith, length-set}
use Rattle.std.specs.List.{AllByRecursion}
use Rattle.std.proofs.ByRecursion.{All-from_get_or, All-get_or, All-set}
use Rattle.std.proofs.lemmas.Bool.{cases_lt}
use Rattle.choosing.specs.declared.share.Share.{Share}
use Rattle.choosing.specs.Balance.{nothing, at, client_demand, demand, supply, rates, latest, Loosely, Balanced, spent, spent_at}
use Rattle.choosing.specs.Choosing.{HasLeft}
use Rattle.choosing.specs.Demands.{span, client_demand_from, client_demand_before, demand_grows, client_demand_grows, idle_spare}

-- ---- a tick taken from the client at place j

pub rates_spent : (cs : List Share) (j : ℕ) → rates (spent_at cs j) ≡ rates cs
rates_spent [] j = refl
rates_spent (c ∷ cs) zero = refl
rates_spent (c ∷ cs) (suc j) = ap (λ n. c.rate + n) (rates_spent cs j)

latest_spent : (cs : List Share) (j : ℕ) → latest (spent_at cs j) ≡ latest cs
latest_spent [] j = refl
latest_spent (c ∷ cs) zero = refl
latest_spent (c ∷ cs) (suc j) = ap (max c.deadline) (latest_spent cs j)

pub deadline_spent : (cs : List Share) (j k : ℕ) → (at (spent_at cs j) k).deadline ≡ (at cs k).deadline
deadline_spent [] j k = refl
deadline_spent (c ∷ cs) zero zero = refl
deadline_spent (c ∷ cs) zero (suc k) = refl
deadline_spent (c ∷ cs) (suc j) zero = refl
deadline_spent (c ∷ cs) (suc j) (suc k) = deadline_spent cs j k

pub left_spent : (cs : List Share) (j k : ℕ) → (at (spent_at cs j) k).left ≤ (at cs k).left
left_spent [] j k = omega arith
left_spent (c ∷ cs) zero zero = omega arith
left_spent (c ∷ cs) zero (suc k) = omega arith
left_spent (c ∷ cs) (suc j) zero = omega arith
left_spent (c ∷ cs) (suc j) (suc k) = left_spent cs j k

latest_at : (cs : List Share) (j : ℕ) → j < length cs → (at cs j).deadline ≤ latest cs
latest_at [] j h = absurd (omega arith)
latest_at (c ∷ cs) zero h = omega arith
latest_at (c ∷ cs) (suc j) h = omega (arith, latest_at cs j (omega arith))

demand_spent : (cs : List Share) (j D : ℕ) → j < length cs → demand (spent_at cs j) D + client_demand (at cs j) D ≡ demand cs D + client_demand (spent (at cs j)) D
demand_spent [] j D h = absurd (omega arith)
demand_spent (c ∷ cs) zero D h = omega arith
demand_spent (c ∷ cs) (suc j) D h = omega (arith, demand_spent cs j D (omega arith))

demand_spent_before : (cs : List Share) (j D : ℕ) → j < length cs → D < (at cs j).deadline → demand (spent_at cs j) D ≡ demand cs D
demand_spent_before cs j D h early =
    omega (arith, demand_spent cs j D h, client_demand_before (at cs j) D early, client_demand_before (spent (at cs j)) D early)

demand_spent_from : (cs : List Share) (j D : ℕ) → HasLeft cs j → (at cs j).deadline ≤ D → demand (spent_at cs j) D + 1 ≡ demand cs D
demand_spent_from cs j D has late =
    omega (arith, demand_spent cs j D has.0, client_demand_from (at cs j) D late, client_demand_from (spent (at cs j)) D late, has.1)

-- A tick may be taken from the server and from the client at place j where, before that client's deadline, the server
-- brings more than is needed.
module _ (s : Share) (cs : List Share) (j : ℕ) (run : 1 ≤ s.left) (has : HasLeft cs j)
    (more : (D : ℕ) → s.deadline ≤ D → D < (at cs j).deadline → demand cs D < supply s D) where
  spent_loosely : Loosely s cs → Loosely (spent s) (spent_at cs j)
  spent_loosely b = record {
    rated = rates_spent cs j ∙ b.rated;
    none_before = All-set (λ c. s.deadline ≤ c.deadline) cs j (spent (at cs j)) (All-get_or (λ c. s.deadline ≤ c.deadline) cs j nothing has.0 b.none_before) b.none_before;
    covered = λ D late. elim (cases_lt D (at cs j).deadline) [
      | inl early ↦ omega (arith, demand_spent_before cs j D has.0 early, more D late early)
      | inr past ↦ omega (arith, demand_spent_from cs j D has past, b.covered D late)
    ];
    even =
        let here : demand (spent_at cs j) (latest cs) ≡ supply (spent s) (latest cs) = omega (arith, demand_spent_from cs j (latest cs) has (latest_at cs j has.0), b.even) in
        ap (demand (spent_at cs j)) (latest_spent cs j) ∙ here ∙ ap (supply (spent s)) (sym (latest_spent cs j));
  }

  pub spent_balanced : Balanced s cs → Balanced (spent s) (spent_at cs j)
  spent_balanced b = record {
    loosely = spent_loosely b.loosely;
    some_at = (b.some_at.0, rw length-set b.some_at.1, deadline_spent cs j b.some_at.0 ∙ b.some_at.2);
  }

-- ---- the two rules leave more than is needed before the deadline of the client that they name

-- The clients due by frame D have nothing left, where none of them can have left.
idle_by : (cs : List Share) (D : ℕ) → ((k : ℕ) → HasLeft cs k → (at cs k).deadline ≤ D → ⊥) → AllByRecursion (λ c. c.deadline ≤ D → c.left ≡ 0) cs
idle_by cs D never = All-from_get_or (λ c. c.deadline ≤ D → c.left ≡ 0) cs nothing
    (λ k h by. elim (cases_lt (at cs k).left 1) [ inl none ↦ omega arith | inr has ↦ absurd (never k (h, has) by) ])

-- No client with left is due before the one at place j.
pub earliest_spare : (s : Share) (cs : List Share) (j : ℕ) → Loosely s cs → 1 ≤ s.left → ((k : ℕ) → HasLeft cs k → (at cs j).deadline ≤ (at cs k).deadline)
    → (D : ℕ) → s.deadline ≤ D → D < (at cs j).deadline → demand cs D < supply s D
earliest_spare s cs j b run first D late early = idle_spare s cs D b run late (idle_by cs D (λ k has by. omega (arith, first k has)))

-- What the client at place j has left comes on top of what is needed before its deadline.
gain : (cs : List Share) (j D : ℕ) → j < length cs → D < (at cs j).deadline → demand cs D + (at cs j).left ≤ demand cs (at cs j).deadline
gain [] j D h early = absurd (omega arith)
gain (c ∷ cs) zero D h early =
    omega (arith, demand_grows cs D c.deadline (omega arith), client_demand_before c D early, client_demand_from c c.deadline (omega arith))
gain (c ∷ cs) (suc j) D h early =
    omega (arith, gain cs j D (omega arith) early, client_demand_grows c D (at cs j).deadline (omega arith))

-- No client with left has less slack than the one at place j, said without a difference.
pub least_spare : (s : Share) (cs : List Share) (j : ℕ) → Loosely s cs → 1 ≤ s.left → j < length cs
    → ((k : ℕ) → HasLeft cs k → s.rate * (at cs j).deadline + (at cs k).left ≤ s.rate * (at cs k).deadline + (at cs j).left)
    → (D : ℕ) → s.deadline ≤ D → D < (at cs j).deadline → demand cs D < supply s D
least_spare s cs j b run within least D late early = elim (cases_lt (demand cs D) (supply s D)) [
  | inl more ↦ more
  | inr full ↦ idle_spare s cs D b run late (idle_by cs D (λ k has by.
      let a = s.rate in
      let dj = (at cs j).deadline in
      let due : a * (at cs k).deadline ≤ a * D = mul-le-mul_left a by in
      omega (
        arith,
        has.1,
        least k has,
        gain cs j D within early,
        b.covered dj (omega arith),
        span a s.deadline D late,
        span a s.deadline dj (omega arith),
      )))
]
