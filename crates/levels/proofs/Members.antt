-- A client of a server: what it needs, and what it may have left. Assumes nothing.
use Rattle.std.proofs.Common.{ℕ, ◌≤◌, List, ◌∷◌, arith}
use Rattle.choosing.specs.declared.share.Share.{Share}
use Rattle.choosing.specs.Balance.{client_demand, demand, supply, NoneBefore, Loosely}
use Rattle.choosing.specs.Demands.{client_demand_from}

-- A client is one of a list.
pub data Among (c : Share) : List Share → Type 0 where
  here : {cs : List Share} → Among c (c ∷ cs)
  there : {b : Share} {cs : List Share} → Among c cs → Among c (b ∷ cs)

among_demand : {c : Share} {cs : List Share} (D : ℕ) → Among c cs → client_demand c D ≤ demand cs D
among_demand D here = omega arith
among_demand D (there {b} {cs} m) = omega (arith, among_demand D m)

pub among_from : {c : Share} {cs : List Share} (d : ℕ) → Among c cs → NoneBefore d cs → d ≤ c.deadline
among_from d here f = f.0
among_from d (there m) f = among_from d m f.1

-- No client has more left than its server brings by the client's deadline.
pub among_left : {c s : Share} {cs : List Share} → Among c cs → Loosely s cs → c.left ≤ supply s c.deadline
among_left {c} {s} {cs} m b =
    let h : s.deadline ≤ c.deadline = among_from s.deadline m b.none_before in
    omega (arith, among_demand c.deadline m, client_demand_from c c.deadline (omega arith), b.covered c.deadline h)
