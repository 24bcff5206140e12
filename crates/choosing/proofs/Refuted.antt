-- Why rules that do not look at deadlines are refused. Assumes nothing.
use Rattle.std.proofs.Common.{ℕ, ◌≤◌, List, [], ◌∷◌, refl, inl, inr, arith}
use Rattle.std.proofs.lemmas.Bool.{cases_lt}
use Rattle.choosing.specs.declared.share.Share.{Share}
use Rattle.choosing.specs.Balance.{demand, supply, Balanced}
use Rattle.choosing.specs.Careless.{CarelessRulesAreUnlawful}
use Rattle.choosing.specs.Demands.{client_demand_from, client_demand_before}

abbrev share : ℕ → ℕ → ℕ → Share
share left rate deadline = record { left = left; rate = rate; deadline = deadline }

-- The second client needs all that the server has up to frame 2.
abbrev server : Share
server = share 6 5 2

abbrev clients : List Share
clients = share 2 2 3 ∷ share 6 3 2 ∷ []

covered : (D : ℕ) → 2 ≤ D → demand clients D ≤ supply server D
covered D late = elim (cases_lt D 3) [
  | inl early ↦ omega (arith, client_demand_before (share 2 2 3) D early, client_demand_from (share 6 3 2) D late)
  | inr past ↦ omega (arith, client_demand_from (share 2 2 3) D past, client_demand_from (share 6 3 2) D late)
]

balanced : Balanced server clients
balanced = record {
  loosely = record { rated = refl; none_before = (omega arith, (omega arith, tt)); covered = covered; even = refl };
  some_at = (1, omega arith, refl);
}

pub careless_rules_are_unlawful : CarelessRulesAreUnlawful
careless_rules_are_unlawful = record {
  -- there may be no client
  first = λ lawful. omega (arith, (lawful server []).1.0);
  -- some client has left
  none = λ lawful. elim (lawful server clients) [ inl idle ↦ idle 0 (omega arith, omega arith) | inr many ↦ omega arith ];
  -- a tick for the first client leaves 5 up to frame 2, where the second needs 6
  priority = λ lawful. omega (arith, ((lawful server clients).2 balanced (omega arith)).loosely.covered 2 (omega arith));
}
