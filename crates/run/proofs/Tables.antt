-- A table written place by place. Assumes nothing.
use Rattle.std.proofs.Common.{◌≡◌, ℕ, zero, suc, ◌+◌, ◌<◌, ◌≤◌, ◌≢◌, List, length, get_or, set, replicate, sym, refl, ap, ◌∙◌, subst, inl, inr, arith, get_or-set_other, get_or-set_same}
use Rattle.std.proofs.lemmas.List.{length-set, ext_get_or}
use Rattle.std.proofs.lemmas.Bool.{cases_eq}
use Rattle.run.specs.Changing.{Changed}

-- One place more of a table that a function gives.
pub written : {X : Type 0} (d : X) (f : ℕ → X) (xs : List X) (i : ℕ) (y : X) → i < length xs → y ≡ f i → ((q : ℕ) → q < i → get_or xs q d ≡ f q) → (q : ℕ) → q < i + 1 → get_or (set xs i y) q d ≡ f q
written d f xs i y h e done q l =
    elim (cases_eq q i) [
      | inl s ↦ subst (λ n. get_or (set xs i y) n d ≡ f n) (sym s) (get_or-set_same xs i y d h ∙ e)
      | inr ne ↦ get_or-set_other xs i q y d ne ∙ done q (omega arith)
    ]

-- The rest of a table, one place on.
pub unwritten : {X : Type 0} (d : X) (g : ℕ → X) (xs : List X) (i : ℕ) (y : X) → ((q : ℕ) → i ≤ q → get_or xs q d ≡ g q) → (q : ℕ) → i + 1 ≤ q → get_or (set xs i y) q d ≡ g q
unwritten d g xs i y rest q l = let ne : q ≢ i = omega arith in get_or-set_other xs i q y d ne ∙ rest q (omega arith)

pub changed_none : {X : Type 0} (d : X) (f : ℕ → X → X) (old : List X) → Changed d f old old 0
changed_none d f old = record { long = refl; done = λ q h. absurd (omega arith); rest = λ q h. refl }

pub changed_more : {X : Type 0} (d : X) (f : ℕ → X → X) (old new : List X) (i : ℕ) (y : X) → i < length old → y ≡ f i (get_or new i d) → Changed d f old new i → Changed d f old (set new i y) (i + 1)
changed_more d f old new i y h e so = record {
  long = length-set new i y ∙ so.long;
  done = written d (λ q. f q (get_or old q d)) new i y (omega (arith, so.long)) (e ∙ ap (f i) (so.rest i (omega arith))) so.done;
  rest = unwritten d (λ q. get_or old q d) new i y so.rest;
}

-- All of a changed list, by its places.
pub changed_all : {X : Type 0} (d : X) (f : ℕ → X → X) (old new ys : List X) (i : ℕ) → length old ≤ i → Changed d f old new i →
    length ys ≡ length old → ((q : ℕ) → q < length old → get_or ys q d ≡ f q (get_or old q d)) → new ≡ ys
changed_all d f old new ys i k so long at =
    ext_get_or d new ys (so.long ∙ sym long) (λ q l. so.done q (omega (arith, so.long)) ∙ sym (at q (omega (arith, so.long))))

-- A table of one value.
pub get_or_blank : {X : Type 0} (d : X) (n q : ℕ) → get_or (replicate n d) q d ≡ d
get_or_blank d zero q = refl
get_or_blank d (suc n) zero = refl
get_or_blank d (suc n) (suc q) = get_or_blank d n q
