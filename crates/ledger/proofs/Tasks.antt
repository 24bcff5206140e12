-- Lists of task numbers: members, those that pass a test, how many they are, the least one. Assumes nothing.
use Rattle.std.proofs.Common.{◌≡◌, ℕ, zero, suc, ◌+◌, ◌<◌, ◌≤◌, Bool, true, false, cond, ◌&&◌, ◌||◌, eqb, ◌⊎◌, List, [], ◌∷◌, length, filter, sym, refl, ap, ◌∙◌, inl, inr, arith}
use Rattle.std.proofs.lemmas.Bool.{eqb-true, eq-eqb, ne_eqb, cases_eq, and_left, and_right, or_left, or_right}
use Rattle.std.specs.List.{AllByRecursion}
use Rattle.levels.specs.Sums.{bit, count, passing}
use Rattle.levels.proofs.Sums.{sum_ext, sum_add, sum_zero, sum_one}
use Rattle.cores.specs.Naming.{member, Different}
use Rattle.ledger.specs.Lists.{least}
use Rattle.ledger.proofs.Jobs.{and_true}

-- ---- members

member_self : (i : ℕ) (ns : List ℕ) → member i (i ∷ ns) ≡ true
member_self i ns = or_left (eqb i i) (member i ns) (eq-eqb i i refl)

member_later : (i n : ℕ) (ns : List ℕ) → member i ns ≡ true → member i (n ∷ ns) ≡ true
member_later i n ns e = or_right (eqb i n) (member i ns) e

pub all_members : (P : ℕ → Type 0) (ns : List ℕ) → ((i : ℕ) → member i ns ≡ true → P i) → AllByRecursion P ns
all_members P [] f = tt
all_members P (n ∷ ns) f = (f n (member_self n ns), all_members P ns (λ i e. f i (member_later i n ns e)))

pub member_kept : (test : ℕ → Bool) (i : ℕ) (ns : List ℕ) → member i (filter test ns) ≡ (member i ns && test i)
member_kept test i [] = refl
member_kept test i (n ∷ ns) = go (test n) refl (eqb i n) refl (member_kept test i ns)
  where
    go : (p : Bool) → test n ≡ p → (q : Bool) → eqb i n ≡ q → member i (filter test ns) ≡ (member i ns && test i)
        → member i (cond p (n ∷ filter test ns) (filter test ns)) ≡ ((q || member i ns) && test i)
    go true e true g ih = or_left (eqb i n) (member i (filter test ns)) g ∙ sym (ap test (eqb-true i n g) ∙ e)
    go true e false g ih = ap (λ b. b || member i (filter test ns)) g ∙ ih
    go false e true g ih = let z : test i ≡ false = ap test (eqb-true i n g) ∙ e in ih ∙ and_right (member i ns) (test i) z ∙ sym z
    go false e false g ih = ih

pub different_kept : (test : ℕ → Bool) (ns : List ℕ) → Different ns → Different (filter test ns)
different_kept test [] d = tt
different_kept test (n ∷ ns) d = go (test n) (different_kept test ns d.1)
  where
    go : (p : Bool) → Different (filter test ns) → Different (cond p (n ∷ filter test ns) (filter test ns))
    go true ih = (member_kept test n ns ∙ and_left (member n ns) (test n) d.0, ih)
    go false ih = ih

-- ---- how many

length_cond : (p : Bool) (n : ℕ) (ns : List ℕ) → length (cond p (n ∷ ns) ns) ≡ bit p + length ns
length_cond true n ns = omega arith
length_cond false n ns = omega arith

-- different numbers below m that pass a test are as many as the count up to m says
pub count_kept : (m : ℕ) (test : ℕ → Bool) (ns : List ℕ) → Different ns → ((i : ℕ) → member i ns ≡ true → i < m) → length (filter test ns) ≡ count m (λ i. member i ns && test i)
count_kept m test [] d b = sym (sum_zero m)
count_kept m test (n ∷ ns) d b =
    let ih : length (filter test ns) ≡ count m (λ i. member i ns && test i) = count_kept m test ns d.1 (λ i e. b i (member_later i n ns e)) in
    length_cond (test n) n (filter test ns)
    ∙ omega (
      arith,
      ih,
      sum_one m n (λ i. bit (test i)) (b n (member_self n ns)),
      sum_add m (λ i. cond (eqb n i) (bit (test i)) 0) (λ i. bit (member i ns && test i)),
      sum_ext m (λ i. bit (member i (n ∷ ns) && test i)) (λ i. cond (eqb n i) (bit (test i)) 0 + bit (member i ns && test i)) (λ i l. apart i (cases_eq i n)),
    )
  where
    apart : (i : ℕ) → (i ≡ n) ⊎ (i ≡ n → ⊥) → bit (member i (n ∷ ns) && test i) ≡ cond (eqb n i) (bit (test i)) 0 + bit (member i ns && test i)
    apart i (inl e) =
        let one : (member i (n ∷ ns) && test i) ≡ test i = ap (λ b. (b || member i ns) && test i) (eq-eqb i n e) in
        let none : (member i ns && test i) ≡ false = and_left (member i ns) (test i) (ap (λ k. member k ns) e ∙ d.0) in
        omega (arith, ap bit one, ap bit none, ap (λ b. cond b (bit (test i)) 0) (eq-eqb n i (sym e)))
    apart i (inr g) =
        omega (arith, ap (λ b. bit ((b || member i ns) && test i)) (ne_eqb i n g), ap (λ b. cond b (bit (test i)) 0) (ne_eqb n i (λ e. g (sym e))))

kept_all : (ns : List ℕ) → filter (λ i. true) ns ≡ ns
kept_all [] = refl
kept_all (n ∷ ns) = ap (λ r. n ∷ r) (kept_all ns)

pub count_members : (m : ℕ) (test : ℕ → Bool) (ns : List ℕ) → Different ns → ((i : ℕ) → member i ns ≡ test i) → ((i : ℕ) → test i ≡ true → i < m) → length ns ≡ count m test
count_members m test ns d e b =
    sym (ap length (kept_all ns))
    ∙ count_kept m (λ i. true) ns d (λ i g. b i (sym (e i) ∙ g))
    ∙ sum_ext m (λ i. bit (member i ns && true)) (λ i. bit (test i)) (λ i l. ap bit (and_true (member i ns) ∙ e i))

-- ---- the least number that passes a test

pub least_none : (n : ℕ) (test : ℕ → Bool) → n ≤ least n test → (i : ℕ) → i < n → test i ≡ false
least_none zero test h i l = absurd (omega arith)
least_none (suc n) test h i l = go (test 0) refl h i l (least_none n (λ k. test (suc k)))
  where
    go : (b : Bool) → test 0 ≡ b → suc n ≤ cond b 0 (suc (least n (λ k. test (suc k)))) → (i : ℕ) → i < suc n
        → (n ≤ least n (λ k. test (suc k)) → (i : ℕ) → i < n → test (suc i) ≡ false) → test i ≡ false
    go true e h i l ih = absurd (omega arith)
    go false e h zero l ih = e
    go false e h (suc i) l ih = ih (omega arith) i (omega arith)

-- ---- the numbers from i on, n of them, that pass a test

passing_before : (i n : ℕ) (test : ℕ → Bool) (k : ℕ) → k < i → member k (passing i n test) ≡ false
passing_before i zero test k l = refl
passing_before i (suc n) test k l = go (test i) (passing_before (suc i) n test k (omega arith))
  where
    go : (b : Bool) → member k (passing (suc i) n test) ≡ false → member k (cond b (i ∷ passing (suc i) n test) (passing (suc i) n test)) ≡ false
    go true ih = ap (λ b. b || member k (passing (suc i) n test)) (ne_eqb k i (λ e. omega arith)) ∙ ih
    go false ih = ih

pub passing_different : (i n : ℕ) (test : ℕ → Bool) → Different (passing i n test)
passing_different i zero test = tt
passing_different i (suc n) test = go (test i) (passing_different (suc i) n test)
  where
    go : (b : Bool) → Different (passing (suc i) n test) → Different (cond b (i ∷ passing (suc i) n test) (passing (suc i) n test))
    go true ih = (passing_before (suc i) n test i (omega arith), ih)
    go false ih = ih

pub passing_member : (i n : ℕ) (test : ℕ → Bool) → ((k : ℕ) → test k ≡ true → k < i + n) → (k : ℕ) → i ≤ k → member k (passing i n test) ≡ test k
passing_member i zero test b k l = go (test k) refl
  where
    go : (p : Bool) → test k ≡ p → false ≡ p
    go true e = absurd (omega (arith, b k e))
    go false e = refl
passing_member i (suc n) test b k l = go (test i) refl (cases_eq k i) (λ h. passing_member (suc i) n test (λ k e. omega (arith, b k e)) k h)
  where
    go : (p : Bool) → test i ≡ p → (k ≡ i) ⊎ (k ≡ i → ⊥) → (suc i ≤ k → member k (passing (suc i) n test) ≡ test k)
        → member k (cond p (i ∷ passing (suc i) n test) (passing (suc i) n test)) ≡ test k
    go true e (inl g) ih = or_left (eqb k i) (member k (passing (suc i) n test)) (eq-eqb k i g) ∙ sym (ap test g ∙ e)
    go true e (inr g) ih = ap (λ b. b || member k (passing (suc i) n test)) (ne_eqb k i g) ∙ ih (omega arith)
    go false e (inl g) ih = passing_before (suc i) n test k (omega arith) ∙ sym (ap test g ∙ e)
    go false e (inr g) ih = ih (omega arith)
