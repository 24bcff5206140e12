-- The least deadline of the clients. Assumes nothing.
use Rattle.std.proofs.Common.{◌≡◌, ℕ, zero, suc, ◌<◌, ◌≤◌, min, List, [], ◌∷◌, length, refl, ap, ◌∙◌, inl, inr, arith}
use Rattle.std.specs.List.{AllByRecursion}
use Rattle.std.proofs.lemmas.Bool.{cases_lt}
use Rattle.choosing.specs.declared.share.Share.{Share}
use Rattle.choosing.specs.Balance.{at, rates, NoneBefore, SomeAt, spent_at}
use Rattle.levels.specs.Renewing.{least_deadline}

pub least_deadline_none_before : (h : ℕ) (cs : List Share) (d : ℕ) → d ≤ least_deadline h cs → NoneBefore d cs
least_deadline_none_before h [] d e = tt
least_deadline_none_before h (c ∷ cs) d e = (omega arith, least_deadline_none_before h cs d (omega arith))

pub least_deadline_from : (h : ℕ) (cs : List Share) (d : ℕ) → d ≤ h → NoneBefore d cs → d ≤ least_deadline h cs
least_deadline_from h [] d e f = e
least_deadline_from h (c ∷ cs) d e f = omega (arith, f.0, least_deadline_from h cs d e f.1)

pub least_deadline_within : (h : ℕ) (cs : List Share) → least_deadline h cs ≤ h
least_deadline_within h [] = omega arith
least_deadline_within h (c ∷ cs) = omega (arith, least_deadline_within h cs)

-- A server that meets the first deadline of its clients has the least one.
pub some_at_least : (h d : ℕ) (cs : List Share) → d ≤ h → NoneBefore d cs → SomeAt d cs → d ≡ least_deadline h cs
some_at_least h d cs l f m = omega (arith, least_deadline_from h cs d l f, least_of m.0 cs m.1, m.2)
  where
    least_of : (k : ℕ) (cs : List Share) → k < length cs → least_deadline h cs ≤ (at cs k).deadline
    least_of k [] g = absurd (omega arith)
    least_of zero (c ∷ cs) g = omega arith
    least_of (suc k) (c ∷ cs) g = omega (arith, least_of k cs (omega arith))

-- Where all clients have their deadline by frame h, one of them has the least.
abbrev pub AllBy : ℕ → List Share → Type 0
AllBy h cs = AllByRecursion (λ c. c.deadline ≤ h) cs

some_client : (cs : List Share) → 1 ≤ rates cs → 1 ≤ length cs
some_client [] r = absurd (omega arith)
some_client (c ∷ cs) r = omega arith

least_client : (h : ℕ) (cs : List Share) → 1 ≤ length cs → AllBy h cs → SomeAt (least_deadline h cs) cs
least_client h [] r b = absurd (omega arith)
least_client h (c ∷ []) r b = (0, omega arith, omega (arith, b.0))
least_client h (c ∷ e ∷ cs) r b =
    let (k, m, q) = least_client h (e ∷ cs) (omega arith) b.1 in
    elim (cases_lt c.deadline (least_deadline h (e ∷ cs))) [ inl g ↦ (0, omega arith, omega arith) | inr g ↦ (suc k, omega arith, q ∙ omega arith) ]

pub least_deadline_some_at : (h : ℕ) (cs : List Share) → 1 ≤ rates cs → AllBy h cs → SomeAt (least_deadline h cs) cs
least_deadline_some_at h cs r b = least_client h cs (some_client cs r) b

pub least_deadline_spent : (h k : ℕ) (cs : List Share) → least_deadline h (spent_at cs k) ≡ least_deadline h cs
least_deadline_spent h k [] = refl
least_deadline_spent h zero (c ∷ cs) = refl
least_deadline_spent h (suc k) (c ∷ cs) = ap (λ n. min c.deadline n) (least_deadline_spent h k cs)
