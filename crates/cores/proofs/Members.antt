-- Lists of tasks: who is named, how many pass a test, and what a fold keeps. Assumes nothing.
use Rattle.std.proofs.Common.{◌≡◌, ℕ, zero, suc, ◌+◌, ◌<◌, ◌≤◌, Bool, true, false, eqb, ◌⊎◌, List, [], ◌∷◌, ◌++◌, length, take, drop, get_or, fold, sym, refl, ap, ap₂, ◌∙◌, ◌||◌, inl, inr, arith}
use Rattle.std.proofs.lemmas.Bool.{false≢true, both_ways, cases_Bool, cases_eq, eq-eqb, eqb-true, or_cases, or_left, or_right, or_parts}
use Rattle.std.specs.List.{AllByRecursion}
use Rattle.cores.specs.Naming.{member, Different}

-- ---- who is named
pub member_here : (t : ℕ) (ts : List ℕ) → member t (t ∷ ts) ≡ true
member_here t ts = or_left (eqb t t) (member t ts) (eq-eqb t t refl)

pub member_there : (t u : ℕ) (ts : List ℕ) → member t ts ≡ true → member t (u ∷ ts) ≡ true
member_there t u ts m = or_right (eqb t u) (member t ts) m

pub member_cases : (t u : ℕ) (ts : List ℕ) → member t (u ∷ ts) ≡ true → (t ≡ u) ⊎ (member t ts ≡ true)
member_cases t u ts m = elim (or_cases (eqb t u) (member t ts) m) [
  | inl e ↦ inl (eqb-true t u e)
  | inr later ↦ inr later
]

pub all_member : (P : ℕ → Type 0) (ts : List ℕ) (t : ℕ) → AllByRecursion P ts → member t ts ≡ true → P t
all_member P [] t all m = absurd (false≢true m)
all_member P (u ∷ ts) t all m = elim (member_cases t u ts m) [
  | inl e ↦ rw e all.0
  | inr later ↦ all_member P ts t all.1 later
]

-- by places
pub at_member : (ts : List ℕ) (c : ℕ) → c < length ts → member (get_or ts c 0) ts ≡ true
at_member [] c h = absurd (omega arith)
at_member (u ∷ ts) zero h = member_here u ts
at_member (u ∷ ts) (suc c) h = member_there (get_or ts c 0) u ts (at_member ts c (omega arith))

pub member_at : (ts : List ℕ) (t : ℕ) → member t ts ≡ true → (c : ℕ) × (c < length ts) × (get_or ts c 0 ≡ t)
member_at [] t m = absurd (false≢true m)
member_at (u ∷ ts) t m = elim (member_cases t u ts m) [
  | inl e ↦ (0, omega arith, sym e)
  | inr later ↦ let at = member_at ts t later in (suc at.0, omega (arith, at.1), at.2)
]

-- in a part of a list
pub member_drop : (n : ℕ) (ts : List ℕ) (t : ℕ) → member t (drop n ts) ≡ true → member t ts ≡ true
member_drop zero ts t m = m
member_drop (suc n) [] t m = m
member_drop (suc n) (u ∷ ts) t m = member_there t u ts (member_drop n ts t m)

pub member_take : (n : ℕ) (ts : List ℕ) (t : ℕ) → member t (take n ts) ≡ true → member t ts ≡ true
member_take zero ts t m = absurd (false≢true m)
member_take (suc n) [] t m = m
member_take (suc n) (u ∷ ts) t m = elim (member_cases t u (take n ts) m) [
  | inl e ↦ ap (λ k. member k (u ∷ ts)) e ∙ member_here u ts
  | inr later ↦ member_there t u ts (member_take n ts t later)
]

pub in_no_part : (n : ℕ) (ts : List ℕ) (t : ℕ) → member t (drop n ts) ≡ false → member t (take n ts) ≡ false → member t ts ≡ false
in_no_part zero ts t behind before = behind
in_no_part (suc n) [] t behind before = refl
in_no_part (suc n) (u ∷ ts) t behind before =
    let parts = or_parts (eqb t u) (member t (take n ts)) before in
    ap₂ ◌||◌ parts.0 (in_no_part n ts t behind parts.1)

pub different_at : (ts : List ℕ) → ((c d : ℕ) → c < length ts → d < length ts → get_or ts c 0 ≡ get_or ts d 0 → c ≡ d) → Different ts
different_at [] apart = tt
different_at (t ∷ ts) apart = (
  elim (cases_Bool (member t ts)) [
    | inl m ↦
        let at = member_at ts t m in
        let same : 0 ≡ suc at.0 = apart 0 (suc at.0) (omega arith) (omega (arith, at.1)) (sym at.2) in
        absurd (omega arith)
    | inr out ↦ out
  ],
  different_at ts (λ c d h k e. let same = apart (suc c) (suc d) (omega arith) (omega arith) e in omega (arith, same)),
)

pub same_test : (a b : Bool) → (a ≡ true → b ≡ true) → (b ≡ true → a ≡ true) → a ≡ b
same_test true b f g = sym (f refl)
same_test false true f g = g refl
same_test false false f g = refl

-- ---- how many pass a test
abbrev pub bit : Bool → ℕ
bit true = 1
bit false = 0

abbrev pub count : (ℕ → Bool) → List ℕ → ℕ
count test [] = 0
count test (t ∷ ts) = bit (test t) + count test ts

bit_most : (b : Bool) → bit b ≤ 1
bit_most true = omega arith
bit_most false = omega arith

pub count_most : (test : ℕ → Bool) (ts : List ℕ) → count test ts ≤ length ts
count_most test [] = omega arith
count_most test (t ∷ ts) = omega (arith, bit_most (test t), count_most test ts)

pub count_none : (test : ℕ → Bool) (ts : List ℕ) → ((t : ℕ) → test t ≡ false) → count test ts ≡ 0
count_none test [] none = refl
count_none test (t ∷ ts) none = omega (arith, ap bit (none t), count_none test ts none)

pub count_full : (test : ℕ → Bool) (ts : List ℕ) → ((t : ℕ) → member t ts ≡ true → test t ≡ true) → count test ts ≡ length ts
count_full test [] all = refl
count_full test (t ∷ ts) all = omega (arith, ap bit (all t (member_here t ts)), count_full test ts (λ u m. all u (member_there u t ts m)))

pub count_all : (test : ℕ → Bool) (ts : List ℕ) (t : ℕ) → count test ts ≡ length ts → member t ts ≡ true → test t ≡ true
count_all test [] t full m = absurd (false≢true m)
count_all test (u ∷ ts) t full m = go (member_cases t u ts m) (count_all test ts t) (test u) refl
  where
    go : (t ≡ u) ⊎ (member t ts ≡ true) → (count test ts ≡ length ts → member t ts ≡ true → test t ≡ true) → (b : Bool) → test u ≡ b → test t ≡ true
    go at ih false f = absurd (omega (arith, ap bit f, count_most test ts))
    go (inl e) ih true f = ap test e ∙ f
    go (inr later) ih true f = ih (omega (arith, ap bit f)) later

-- one task more passes
module _ (test more : ℕ → Bool) (t : ℕ) (was : test t ≡ false) (now : more t ≡ true) (others : (u : ℕ) → (u ≡ t → ⊥) → more u ≡ test u) where
  count_same : (ts : List ℕ) → member t ts ≡ false → count more ts ≡ count test ts
  count_same [] out = refl
  count_same (u ∷ ts) out =
      let parts = or_parts (eqb t u) (member t ts) out in
      let ne : u ≡ t → ⊥ = λ e. both_ways (eqb t u) parts.0 (eq-eqb t u (sym e)) in
      omega (arith, ap bit (others u ne), count_same ts parts.1)

  pub count_one : (ts : List ℕ) → Different ts → member t ts ≡ true → count more ts ≡ suc (count test ts)
  count_one [] apart m = absurd (false≢true m)
  count_one (u ∷ ts) apart m = go (cases_eq t u) (member_cases t u ts m) (count_one ts apart.1)
    where
      go : (t ≡ u) ⊎ (t ≡ u → ⊥) → (t ≡ u) ⊎ (member t ts ≡ true) → (member t ts ≡ true → count more ts ≡ suc (count test ts)) → bit (more u) + count more ts ≡ suc (bit (test u) + count test ts)
      go (inl e) at ih =
          omega (arith, ap bit (ap more (sym e) ∙ now), ap bit (ap test (sym e) ∙ was), count_same ts (ap (λ k. member k ts) e ∙ apart.0))
      go (inr ne) (inl e) ih = absurd (ne e)
      go (inr ne) (inr later) ih = omega (arith, ih later, ap bit (others u (λ e. ne (sym e))))

-- ---- folds
pub folded_append : {S : Type 0} (f : S → ℕ → S) (s : S) (xs ys : List ℕ) → fold f s (xs ++ ys) ≡ fold f (fold f s xs) ys
folded_append f s [] ys = refl
folded_append f s (x ∷ xs) ys = folded_append f (f s x) xs ys

-- what holds at first and through each step holds at the end
pub by_folded : {S : Type 0} (P : S → Type 0) (f : S → ℕ → S) (ts : List ℕ) (s : S) → P s → ((t : ℕ) (s : S) → member t ts ≡ true → P s → P (f s t)) → P (fold f s ts)
by_folded P f [] s start more = start
by_folded P f (t ∷ ts) s start more =
    by_folded P f ts (f s t) (more t s (member_here t ts) start) (λ u s m. more u s (member_there u t ts m))

-- what one task brings about, and each step keeps, holds at the end
pub by_turn : {S : Type 0} (P Q : S → Type 0) (f : S → ℕ → S) (ts : List ℕ) (t : ℕ) (s : S) → member t ts ≡ true → P s
    → ((u : ℕ) (s : S) → member u ts ≡ true → P s → P (f s u)) → ((s : S) → P s → Q (f s t)) → ((u : ℕ) (s : S) → member u ts ≡ true → P s → Q s → Q (f s u)) → Q (fold f s ts)
by_turn P Q f [] t s m start more turn keep = absurd (false≢true m)
by_turn P Q f (x ∷ xs) t s m start more turn keep = elim (member_cases t x xs m) [
  | inl e ↦
      (by_folded (λ s. P s × Q s) f xs (f s x) (more x s (member_here x xs) start, rw (sym e) (turn s start))
      (λ u s m. λ b. (more u s (member_there u x xs m) b.0, keep u s (member_there u x xs m) b.0 b.1))).1
  | inr later ↦
      by_turn P Q f xs t (f s x) later (more x s (member_here x xs) start) (λ u s m. more u s (member_there u x xs m)) turn (λ u s m. keep u s (member_there u x xs m))
]
