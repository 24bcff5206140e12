-- New jobs of clients, and of their server, keep them loosely balanced. Assumes nothing.
use Rattle.std.proofs.Common.{◌≡◌, ℕ, suc, ◌-◌, ◌*◌, ◌≤◌, ◌⊎◌, List, [], ◌∷◌, length, sym, refl, ap, ◌∙◌, inl, inr, arith}
use Rattle.std.proofs.lemmas.Bool.{cases_lt}
use Rattle.choosing.specs.declared.share.Share.{Share}
use Rattle.choosing.specs.Balance.{client_demand, demand, supply, rates, latest, NoneBefore, Loosely}
use Rattle.choosing.specs.Demands.{span, client_demand_from, client_demand_before, even_from, loosely}
use Rattle.levels.specs.Renewing.{job}

-- The next job of a client that was due at frame f with nothing left.
pub record NextJob (f : ℕ) (c c' : Share) : Type 0 where
  pub was_due : c.deadline ≡ f
  pub was_done : c.left ≡ 0
  pub later : f ≤ c'.deadline
  pub same_rate : c'.rate ≡ c.rate
  pub fresh : c'.left ≡ c.rate * (c'.deadline - f)

-- As it was, or with its next job; so all clients of a list.
abbrev pub Renewed : ℕ → Share → Share → Type 0
Renewed f c c' = (c' ≡ c) ⊎ NextJob f c c'

pub data RenewedAll (f : ℕ) : List Share → List Share → Type 0 where
  none : RenewedAll f [] []
  more : {c c' : Share} {cs cs' : List Share} → Renewed f c c' → RenewedAll f cs cs' → RenewedAll f (c ∷ cs) (c' ∷ cs')

-- A new job never needs more than the old one, and as much from its deadline on.
record Eased (c c' : Share) : Type 0 where
  rate_is : c'.rate ≡ c.rate
  due : c.deadline ≤ c'.deadline
  less : (D : ℕ) → client_demand c' D ≤ client_demand c D
  same : (D : ℕ) → c'.deadline ≤ D → client_demand c' D ≡ client_demand c D

next_same : (f : ℕ) (c c' : Share) → NextJob f c c' → (D : ℕ) → c'.deadline ≤ D → client_demand c' D ≡ client_demand c D
next_same f c c' n D h =
    let e : c'.rate * (D - c'.deadline) ≡ c.rate * (D - c'.deadline) = ap (λ r. r * (D - c'.deadline)) n.same_rate in
    let g : c.rate * (D - f) ≡ c.rate * (D - c.deadline) = ap (λ x. c.rate * (D - x)) (sym n.was_due) in
    omega (
      arith,
      client_demand_from c' D h,
      client_demand_from c D (omega arith),
      e,
      g,
      n.fresh,
      span c.rate f c'.deadline n.later,
      span c.rate c'.deadline D h,
      span c.rate f D (omega arith),
    )

next_less : (f : ℕ) (c c' : Share) → NextJob f c c' → (D : ℕ) → client_demand c' D ≤ client_demand c D
next_less f c c' n D = elim (cases_lt D c'.deadline) [ inl h ↦ omega (arith, client_demand_before c' D h) | inr h ↦ omega (arith, next_same f c c' n D h) ]

eased : (f : ℕ) (c c' : Share) → Renewed f c c' → Eased c c'
eased f c c' (inl e) = record {
  rate_is = ap (λ x. x.rate) e;
  due = omega (arith, ap (λ x. x.deadline) e);
  less = λ D. omega (arith, ap (λ x. client_demand x D) e);
  same = λ D h. ap (λ x. client_demand x D) e;
}
eased f c c' (inr n) = record {
  rate_is = n.same_rate;
  due = omega arith;
  less = next_less f c c' n;
  same = next_same f c c' n;
}

record EasedAll (cs cs' : List Share) : Type 0 where
  rates_are : rates cs' ≡ rates cs
  due : latest cs ≤ latest cs'
  from : (d : ℕ) → NoneBefore d cs → NoneBefore d cs'
  less : (D : ℕ) → demand cs' D ≤ demand cs D
  same : (D : ℕ) → latest cs' ≤ D → demand cs' D ≡ demand cs D

eased_all : (f : ℕ) {cs cs' : List Share} → RenewedAll f cs cs' → EasedAll cs cs'
eased_all f none = record { rates_are = refl; due = omega arith; from = λ d h. tt; less = λ D. omega arith; same = λ D h. refl }
eased_all f (more {c} {c'} {cs} {cs'} r rs) =
    let e : Eased c c' = eased f c c' r in
    let a : EasedAll cs cs' = eased_all f rs in
    record {
      rates_are = omega (arith, e.rate_is, a.rates_are);
      due = omega (arith, e.due, a.due);
      from = λ d h. (omega (arith, e.due, h.0), a.from d h.1);
      less = λ D. omega (arith, e.less D, a.less D);
      same = λ D h. omega (arith, e.same D (omega arith), a.same D (omega arith));
    }

-- New jobs of its clients leave a server loosely balanced.
pub loosely_renewed : (f : ℕ) {s : Share} {cs cs' : List Share} → RenewedAll f cs cs' → Loosely s cs → Loosely s cs'
loosely_renewed f {s} {cs} {cs'} rs b =
    let a : EasedAll cs cs' = eased_all f rs in
    loosely s cs' (a.rates_are ∙ b.rated) (a.from s.deadline b.none_before) (λ D h. omega (arith, a.less D, b.covered D h))
    (λ D h l. a.same D l ∙ even_from s cs b D (omega (arith, a.due)))

pub length_renewed_all : (f : ℕ) {cs cs' : List Share} → RenewedAll f cs cs' → length cs' ≡ length cs
length_renewed_all f none = refl
length_renewed_all f (more r rs) = ap suc (length_renewed_all f rs)

-- The next job of a server that was due with nothing left leaves it loosely balanced.
pub loosely_begun : (f d : ℕ) (s : Share) (cs : List Share) → s.deadline ≡ f → s.left ≡ 0 → f ≤ d → NoneBefore d cs → Loosely s cs
    → Loosely (job s.rate f d) cs
loosely_begun f d s cs due done h from b =
    loosely (job s.rate f d) cs b.rated from (λ D l. omega (arith, b.covered D (omega arith), same D l)) (λ D l m. even_from s cs b D m ∙ same D l)
  where
    same : (D : ℕ) → d ≤ D → supply s D ≡ supply (job s.rate f d) D
    same D l = omega (arith, done, ap (λ x. s.rate * (D - x)) due, span s.rate f d h, span s.rate d D l, span s.rate f D (omega arith))
