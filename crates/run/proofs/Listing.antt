-- The numbers that pass a test, as a list. Assumes nothing.
use Rattle.std.proofs.Common.{◌≡◌, ℕ, zero, suc, ◌+◌, ◌<◌, ◌≤◌, Bool, true, false, cond, ◌&&◌, ◌||◌, eqb, ◌⊎◌, List, [], ◌∷◌, ◌++◌, sym, refl, ap, ◌∙◌, inl, inr, zero-add, add-one, arith}
use Rattle.std.proofs.lemmas.Bool.{and_right, cases_eq, cases_lt, eq-eqb, ne_eqb, or_from}
use Rattle.std.specs.List.{AllByRecursion}
use Rattle.cores.specs.Naming.{member, Different, Names}
use Rattle.levels.specs.Sums.{passing}
use Rattle.run.proofs.Scan.{last_no, last_yes, lift}

-- ---- one number more

passing_suc : (j n : ℕ) (test : ℕ → Bool) → passing j (suc n) test ≡ passing j n test ++ cond (test (j + n)) ((j + n) ∷ []) []
passing_suc j zero test = let e : j ≡ j + 0 = omega arith in ap (λ i. cond (test i) (i ∷ []) []) e
passing_suc j (suc n) test =
    let e : suc j + n ≡ j + suc n = omega arith in
    lift (test j) j _ _ _ (passing_suc (suc j) n test ∙ ap (λ i. passing (suc j) n test ++ cond (test i) (i ∷ []) []) e)

module _ (n : ℕ) (test : ℕ → Bool) where
  more : passing 0 (n + 1) test ≡ passing 0 n test ++ cond (test n) (n ∷ []) []
  more = rw add-one (passing_suc 0 n test ∙ ap (λ i. passing 0 n test ++ cond (test i) (i ∷ []) []) (zero-add n))

  pub passing_yes : test n ≡ true → passing 0 (n + 1) test ≡ passing 0 n test ++ (n ∷ [])
  passing_yes = last_yes _ _ _ _ more

  pub passing_no : test n ≡ false → passing 0 (n + 1) test ≡ passing 0 n test
  passing_no = last_no _ _ _ _ more

-- ---- tests that agree on the numbers

pub passing_same : (j n : ℕ) (test test' : ℕ → Bool) → ((i : ℕ) → j ≤ i → i < j + n → test i ≡ test' i) → passing j n test ≡ passing j n test'
passing_same j zero test test' same = refl
passing_same j (suc n) test test' same =
    let rest = passing_same (suc j) n test test' (λ i h l. same i (omega arith) (omega arith)) in
    ap (λ b. cond b (j ∷ passing (suc j) n test) (passing (suc j) n test)) (same j (omega arith) (omega arith)) ∙ ap (λ is. cond (test' j) (j ∷ is) is) rest

-- ---- who is in the list

member_split : (t j : ℕ) (us : List ℕ) (b : Bool) → member t (cond b (j ∷ us) us) ≡ ((b && eqb t j) || member t us)
member_split t j us true = refl
member_split t j us false = refl

member_out : (t j n : ℕ) (test : ℕ → Bool) → (t < j) ⊎ (j + n ≤ t) → member t (passing j n test) ≡ false
member_out t j zero test out = refl
member_out t j (suc n) test (inl l) =
    member_split t j (passing (suc j) n test) (test j) ∙
    or_from _ _ (and_right (test j) (eqb t j) (ne_eqb t j (omega arith))) (member_out t (suc j) n test (inl (omega arith)))
member_out t j (suc n) test (inr g) =
    member_split t j (passing (suc j) n test) (test j) ∙
    or_from _ _ (and_right (test j) (eqb t j) (ne_eqb t j (omega arith))) (member_out t (suc j) n test (inr (omega arith)))

only_first : (b : Bool) → ((b && true) || false) ≡ b
only_first true = refl
only_first false = refl

only_rest : (b m : Bool) → ((b && false) || m) ≡ m
only_rest true m = refl
only_rest false m = refl

member_in : (t j n : ℕ) (test : ℕ → Bool) → j ≤ t → t < j + n → member t (passing j n test) ≡ test t
member_in t j zero test h l = absurd (omega arith)
member_in t j (suc n) test h l =
    elim (cases_eq t j) [
      | inl e ↦
          member_split t j (passing (suc j) n test) (test j) ∙
          ap (λ m. (test j && eqb t j) || m) (member_out t (suc j) n test (inl (omega (arith, e)))) ∙
          ap (λ b. (test j && b) || false) (eq-eqb t j e) ∙
          only_first (test j) ∙
          ap test (sym e)
      | inr ne ↦
          let later : suc j ≤ t = omega arith in
          member_split t j (passing (suc j) n test) (test j) ∙
          ap (λ b. (test j && b) || member t (passing (suc j) n test)) (ne_eqb t j ne) ∙
          only_rest (test j) (member t (passing (suc j) n test)) ∙
          member_in t (suc j) n test later (omega arith)
    ]

one_more : (j : ℕ) (us : List ℕ) (b : Bool) → member j us ≡ false → Different us → Different (cond b (j ∷ us) us)
one_more j us true e d = (e, d)
one_more j us false e d = d

different_passing : (j n : ℕ) (test : ℕ → Bool) → Different (passing j n test)
different_passing j zero test = tt
different_passing j (suc n) test = one_more j (passing (suc j) n test) (test j) (member_out j (suc j) n test (inl (omega arith))) (different_passing (suc j) n test)

-- The list names just the numbers that pass, where none from n on does.
pub names_passing : (n : ℕ) (test : ℕ → Bool) → ((t : ℕ) → n ≤ t → test t ≡ false) → Names test (passing 0 n test)
names_passing n test none = (
  different_passing 0 n test,
  λ t. elim (cases_lt t n) [
    | inl l ↦ member_in t 0 n test (omega arith) (omega arith)
    | inr g ↦ member_out t 0 n test (inr (omega arith)) ∙ sym (none t g)
  ],
)

-- All of them are below the end.
below_next : (j m : ℕ) (us : List ℕ) (b : Bool) → j < m → AllByRecursion (λ i. i < m) us → AllByRecursion (λ i. i < m) (cond b (j ∷ us) us)
below_next j m us true h so = (h, so)
below_next j m us false h so = so

below_from : (j n m : ℕ) (test : ℕ → Bool) → j + n ≤ m → AllByRecursion (λ i. i < m) (passing j n test)
below_from j zero m test h = tt
below_from j (suc n) m test h = below_next j m (passing (suc j) n test) (test j) (omega arith) (below_from (suc j) n m test (omega arith))

pub below_passing : (n : ℕ) (test : ℕ → Bool) → AllByRecursion (λ i. i < n) (passing 0 n test)
below_passing n test = below_from 0 n n test (omega arith)
