-- What the clients of a server need, and what the server brings. Assumes nothing.
use Rattle.std.specs.Prelude.{◌≡◌, ℕ, ◌+◌, ◌-◌, ◌*◌, ◌<◌, ◌≤◌, max, List, [], ◌∷◌, nat_le}
use Rattle.std.proofs.Common.{sym, ap, ◌∙◌, inl, inr, mul-add, add-mul, mul-le-mul_left, arith}
use Rattle.std.specs.List.{AllByRecursion}
use Rattle.std.proofs.ByRecursion.{All-weaker}
use Rattle.std.proofs.lemmas.Bool.{le-leb, lt-leb, cond-true, cond-false, cases_lt}
use Rattle.choosing.specs.declared.share.Share.{Share}
use Rattle.choosing.specs.Balance.{client_demand, demand, supply, rates, latest, NoneBefore, Loosely}

-- Products over a span of frames, for omega: all becomes linear in a * D and a * d.
pub span : (a d D : ℕ) → d ≤ D → a * (D - d) + a * d ≡ a * D
span a d D h = sym (mul-add a (D - d) d) ∙ ap (λ n. a * n) (omega arith)

-- ---- one client

pub client_demand_from : (c : Share) (D : ℕ) → c.deadline ≤ D → client_demand c D ≡ c.left + c.rate * (D - c.deadline)
client_demand_from c D h = cond-true (nat_le c.deadline D) _ _ (le-leb c.deadline D h)

pub client_demand_before : (c : Share) (D : ℕ) → D < c.deadline → client_demand c D ≡ 0
client_demand_before c D h = cond-false (nat_le c.deadline D) _ _ (lt-leb c.deadline D h)

pub client_demand_grows : (c : Share) (D E : ℕ) → D ≤ E → client_demand c D ≤ client_demand c E
client_demand_grows c D E h = elim (cases_lt D c.deadline) [
  | inl b ↦ omega (arith, client_demand_before c D b)
  | inr f ↦ omega (
    arith,
    client_demand_from c D f,
    client_demand_from c E (omega arith),
    mul-le-mul_left {m = D - c.deadline} {n = E - c.deadline} c.rate (omega arith),
  )
]

-- ---- all clients

-- Past the latest deadline the demand grows by the rates.
demand_past : (cs : List Share) (E D : ℕ) → latest cs ≤ E → E ≤ D → demand cs D ≡ demand cs E + rates cs * (D - E)
demand_past [] E D l h = omega arith
demand_past (c ∷ cs) E D l h = omega (
  arith,
  demand_past cs E D (omega arith) h,
  client_demand_from c D (omega arith),
  client_demand_from c E (omega arith),
  span c.rate c.deadline D (omega arith),
  span c.rate c.deadline E (omega arith),
  span c.rate E D h,
  add-mul c.rate (rates cs) (D - E),
)

pub demand_grows : (cs : List Share) (D E : ℕ) → D ≤ E → demand cs D ≤ demand cs E
demand_grows [] D E h = omega arith
demand_grows (c ∷ cs) D E h = omega (arith, client_demand_grows c D E h, demand_grows cs D E h)

-- Clients that are due by frame D with nothing left need no more than their rates bring.
pub idle_demand : (d D : ℕ) (cs : List Share) → AllByRecursion (λ c. c.deadline ≤ D → c.left ≡ 0) cs → NoneBefore d cs → d ≤ D → demand cs D ≤ rates cs * (D - d)
idle_demand d D [] idle from h = omega arith
idle_demand d D (c ∷ cs) idle from h =
    omega (arith, add-mul c.rate (rates cs) (D - d), idle_demand d D cs idle.1 from.1 h, one)
  where
    one : client_demand c D ≤ c.rate * (D - d)
    one = elim (cases_lt D c.deadline) [
      | inl l ↦ omega (arith, client_demand_before c D l)
      | inr l ↦ omega (arith, client_demand_from c D l, idle.0 l, mul-le-mul_left {m = D - c.deadline} {n = D - d} c.rate (omega (arith, from.0)))
    ]

-- ---- a server and its clients

-- What is even at the latest deadline is even from there on.
pub even_from : (s : Share) (cs : List Share) → Loosely s cs → (D : ℕ) → latest cs ≤ D → demand cs D ≡ supply s D
even_from s [] b D l = let z : 0 ≡ s.rate = b.rated in omega (arith, b.even, ap (λ r. r * (D - s.deadline)) z, ap (λ r. r * (0 - s.deadline)) z)
even_from s (c ∷ cs) b D l =
    let E : ℕ = latest (c ∷ cs) in
    let d : s.deadline ≤ E = omega (arith, b.none_before.0) in
    omega (
      arith,
      b.even,
      demand_past (c ∷ cs) E D (omega arith) l,
      ap (λ r. r * (D - E)) b.rated,
      span s.rate s.deadline D (omega arith),
      span s.rate s.deadline E d,
      span s.rate E D l,
    )

-- It is enough that it is even from some frame on.
pub loosely : (s : Share) (cs : List Share) → rates cs ≡ s.rate → NoneBefore s.deadline cs → ((D : ℕ) → s.deadline ≤ D → demand cs D ≤ supply s D)
    → ((D : ℕ) → s.deadline ≤ D → latest cs ≤ D → demand cs D ≡ supply s D) → Loosely s cs
loosely s [] w f b e = record {
  rated = w;
  none_before = f;
  covered = b;
  even = omega (arith, e s.deadline (omega arith) (omega arith), ap (λ r. r * (0 - s.deadline)) w, ap (λ r. r * (s.deadline - s.deadline)) w);
}
loosely s (c ∷ cs) w f b e = record { rated = w; none_before = f; covered = b; even = e (latest (c ∷ cs)) (omega (arith, f.0)) (omega arith) }

-- Where the clients that are due by frame D have nothing left, the server brings more than they need.
pub idle_spare : (s : Share) (cs : List Share) (D : ℕ) → Loosely s cs → 1 ≤ s.left → s.deadline ≤ D → AllByRecursion (λ c. c.deadline ≤ D → c.left ≡ 0) cs → demand cs D < supply s D
idle_spare s cs D b run h idle =
    omega (arith, idle_demand s.deadline D cs idle b.none_before h, ap (λ r. r * (D - s.deadline)) b.rated)

-- A server with left has a client with left.
pub not_idle : (s : Share) (cs : List Share) → Loosely s cs → 1 ≤ s.left → AllByRecursion (λ c. c.left ≡ 0) cs → ⊥
not_idle s cs b run idle =
    let D : ℕ = max s.deadline (latest cs) in
    omega (arith, even_from s cs b D (omega arith), idle_spare s cs D b run (omega arith) (All-weaker (λ c. c.left ≡ 0) (λ c. c.deadline ≤ D → c.left ≡ 0) (λ c e h. e) cs idle))
