-- The two choosing rules: whom each names, and as functions. A reader of the contracts has to believe this file.
use Rattle.std.specs.Prelude.{◌≡◌, ℕ, ◌<◌, ◌≤◌, Bool, cond, not, ◌&&◌, ◌⊎◌, List, length, position, ℤ, pos, ◌+ℤ◌, ◌-ℤ◌, ◌*ℤ◌, ◌<ℤ◌, None, Option, int_lt, nat_lt}
use Rattle.std.specs.List.{list_all}
use Rattle.choosing.specs.declared.share.Share.{Share}
use Rattle.choosing.specs.Balance.{at}
use Rattle.choosing.specs.Choosing.{Rule, HasLeft, Names}

-- ---- whom each names

-- Earliest deadline names the client with left that has the earliest deadline, the first of equals.
abbrev pub IsEarliestDeadline : List Share → Option ℕ → Type 0
IsEarliestDeadline cs =
    Names cs (λ j. (k : ℕ) → HasLeft cs k → ((at cs j).deadline < (at cs k).deadline) ⊎ (((at cs j).deadline ≡ (at cs k).deadline) × (j ≤ k)))

-- The slack of a client: what its server brings up to the client's deadline, less what the client has left. It may be negative.
unfoldable pub slack : Share → Share → ℤ
slack s c = pos s.left +ℤ pos s.rate *ℤ (pos c.deadline -ℤ pos s.deadline) -ℤ pos c.left

-- Least slack names the client with left that has the least slack, the first of equals.
abbrev pub IsLeastSlack : Share → List Share → Option ℕ → Type 0
IsLeastSlack s cs =
    Names cs (λ j. (k : ℕ) → HasLeft cs k → (slack s (at cs j) <ℤ slack s (at cs k)) ⊎ ((slack s (at cs j) ≡ slack s (at cs k)) × (j ≤ k)))

-- ---- the rules as functions: the first client with left that no other with left beats

abbrev pub has_left : Share → Bool
has_left c = nat_lt 0 c.left

-- Client c has left, and no client of cs that has left beats it.
abbrev pub unbeaten : (Share → Share → Bool) → List Share → Share → Bool
unbeaten beats cs c = has_left c && list_all (λ k. not (has_left k && beats k c)) cs

-- The first unbeaten client, unless there are more than 80.
abbrev pub first_unbeaten : (Share → Share → Bool) → List Share → Option ℕ
first_unbeaten beats cs = cond (nat_lt 80 (length cs)) None (position (unbeaten beats cs) cs)

-- One client beats another by an earlier deadline, or by less slack.
abbrev pub sooner : Share → Share → Bool
sooner c b = nat_lt c.deadline b.deadline

abbrev pub tighter : Share → Share → Share → Bool
tighter s c b = int_lt (slack s c) (slack s b)

abbrev pub earliest_deadline : Rule
earliest_deadline s cs = first_unbeaten sooner cs

abbrev pub least_slack : Rule
least_slack s cs = first_unbeaten (tighter s) cs
