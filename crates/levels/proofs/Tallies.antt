-- Counts of items by a test, in all and for one server. Assumes nothing.
use Rattle.std.proofs.Common.{◌≡◌, ℕ, zero, suc, ◌+◌, ◌<◌, ◌≤◌, Bool, true, false, cond, eqb, List, [], ◌∷◌, length, Some, None, Option, sym, refl, ap, ◌∙◌, arith}
use Rattle.std.proofs.lemmas.Bool.{eq-eqb, eqb-true}
use Rattle.packing.specs.Packing.{at_home}
use Rattle.levels.specs.declared.item.Item.{Item}
use Rattle.levels.specs.Sums.{sum_to, bit, count}
use Rattle.levels.specs.Items.{item_at, Homed, if_homed}
use Rattle.levels.specs.Ticking.{is_first, takes, nearer, past, picked, named, spend_items}
use Rattle.levels.proofs.Never.{never_true, never_some}
use Rattle.levels.proofs.Frame.{RenewedItems, end, next}
use Rattle.levels.proofs.Sums.{sum_add, sum_zero}
use Rattle.levels.proofs.Filling.{one_rate}

-- ---- how many of the items that have a home pass a test, and how many of those with home q

abbrev pub many : List Item → (ℕ → Bool) → ℕ
many [] p = 0
many (x ∷ xs) p = if_homed x.home (bit (p 0)) + many xs (λ i. p (suc i))

abbrev pub tally : List Item → ℕ → (ℕ → Bool) → ℕ
tally [] q p = 0
tally (x ∷ xs) q p = cond (at_home x.home q) (bit (p 0)) 0 + tally xs q (λ i. p (suc i))

pub if_homed_most : (o : Option ℕ) (n : ℕ) → if_homed o n ≤ n
if_homed_most None n = omega arith
if_homed_most (Some h) n = omega arith

pub bit_most : (b : Bool) → bit b ≤ 1
bit_most true = omega arith
bit_most false = omega arith

pub many_tally : (n : ℕ) (xs : List Item) (p : ℕ → Bool) → Homed n xs → sum_to n (λ q. tally xs q p) ≡ many xs p
many_tally n [] p g = sum_zero n
many_tally n (x ∷ xs) p g =
    sum_add n (λ q. cond (at_home x.home q) (bit (p 0)) 0) (λ q. tally xs q (λ i. p (suc i)))
    ∙ omega (arith, one_rate n x.home (bit (p 0)) (λ k e. g 0 k e), many_tally n xs (λ i. p (suc i)) (λ i k e. g (suc i) k e))

pub sum_le : (n : ℕ) (g h : ℕ → ℕ) → ((q : ℕ) → q < n → g q ≤ h q) → sum_to n g ≤ sum_to n h
sum_le zero g h f = omega arith
sum_le (suc n) g h f = omega (arith, f 0 (omega arith), sum_le n (λ q. g (suc q)) (λ q. h (suc q)) (λ q l. f (suc q) (omega arith)))

-- Items with no home pass no test.
pub many_none : (xs : List Item) (p : ℕ → Bool) → Homed 0 xs → many xs p ≡ 0
many_none xs p g = sym (many_tally 0 xs p g)

-- Where each item that passes has a home, all are counted.
pub many_count : (xs : List Item) (p : ℕ → Bool) → ((i : ℕ) → i < length xs → p i ≡ true → (h : ℕ) × ((item_at xs i).home ≡ Some h))
    → many xs p ≡ count (length xs) p
many_count [] p g = refl
many_count (x ∷ xs) p g = omega (arith, one (p 0) refl, many_count xs (λ i. p (suc i)) (λ i l e. g (suc i) (omega arith) e))
  where
    one : (b : Bool) → p 0 ≡ b → if_homed x.home (bit b) ≡ bit b
    one true e = let (h, k) = g 0 (omega arith) e in rw k refl
    one false e = omega (arith, if_homed_most x.home 0)

cond_le : (b : Bool) (x y : ℕ) → (b ≡ true → x ≤ y) → cond b x 0 ≤ cond b y 0
cond_le true x y h = h refl
cond_le false x y h = omega arith

home_is : (o : Option ℕ) (q : ℕ) → at_home o q ≡ true → o ≡ Some q
home_is None q e = never_true e
home_is (Some h) q e = ap Some (eqb-true h q e)

is_home_self : (o : Option ℕ) (q : ℕ) → o ≡ Some q → at_home o q ≡ true
is_home_self o q e = rw e (eq-eqb q q refl)

pub tally_le : (xs : List Item) (q : ℕ) (p r : ℕ → Bool) → ((i : ℕ) → (item_at xs i).home ≡ Some q → bit (p i) ≤ bit (r i))
    → tally xs q p ≤ tally xs q r
tally_le [] q p r h = omega arith
tally_le (x ∷ xs) q p r h =
    omega (arith, cond_le (at_home x.home q) (bit (p 0)) (bit (r 0)) (λ e. h 0 (home_is x.home q e)), tally_le xs q (λ i. p (suc i)) (λ i. r (suc i)) (λ i e. h (suc i) e))

tally_false : (xs : List Item) (q : ℕ) → tally xs q (λ i. false) ≡ 0
tally_false [] q = refl
tally_false (x ∷ xs) q = omega (arith, go (at_home x.home q), tally_false xs q)
  where
    go : (b : Bool) → ◌≡◌ {A = ℕ} (cond b 0 0) 0
    go true = refl
    go false = refl

pub tally_none : (xs : List Item) (q : ℕ) (p : ℕ → Bool) → ((i : ℕ) → (item_at xs i).home ≡ Some q → p i ≡ false) → tally xs q p ≡ 0
tally_none xs q p h = omega (arith, tally_le xs q p (λ i. false) (λ i e. omega (arith, ap bit (h i e))), tally_false xs q)

pub bit_zero : (b : Bool) → bit b ≡ 0 → b ≡ false
bit_zero true e = absurd (omega arith)
bit_zero false e = refl

pub tally_zero : (xs : List Item) (q : ℕ) (p : ℕ → Bool) → tally xs q p ≡ 0 → (i : ℕ) → (item_at xs i).home ≡ Some q → p i ≡ false
tally_zero [] q p z i e = never_some q e
tally_zero (x ∷ xs) q p z zero e = bit_zero (p 0) (omega (arith, ap (λ b. cond b (bit (p 0)) 0) (is_home_self x.home q e)))
tally_zero (x ∷ xs) q p z (suc i) e = tally_zero xs q (λ k. p (suc k)) (omega arith) i e

-- ---- a server picks at most one of its clients

past_home : (pick : ℕ → Option ℕ) (h q : ℕ) → eqb h q ≡ true → past pick (Some h) q ≡ nearer (pick q)
past_home pick h q e = rw e refl

one_pick : (o : Option ℕ) (n : ℕ) → (is_first o ≡ true → n ≡ 0) → n ≤ 1 → bit (is_first o) + n ≤ 1
one_pick None n f h = omega arith
one_pick (Some zero) n f h = omega (arith, f refl)
one_pick (Some (suc k)) n f h = omega arith

pub tally_unpicked : (pick : ℕ → Option ℕ) (xs : List Item) (q : ℕ) → pick q ≡ None → tally xs q (picked pick xs) ≡ 0
tally_unpicked pick [] q e = refl
tally_unpicked pick (x ∷ xs) q e = omega (arith, here x.home, tally_unpicked (past pick x.home) xs q (later (at_home x.home q)))
  where
    later : (b : Bool) → cond b (nearer (pick q)) (pick q) ≡ None
    later true = rw e refl
    later false = e

    here : (h : Option ℕ) → cond (at_home h q) (bit (takes pick h)) 0 ≡ 0
    here None = refl
    here (Some h) = go (eqb h q) refl
      where
        go : (b : Bool) → eqb h q ≡ b → cond b (bit (is_first (pick h))) 0 ≡ 0
        go true t = rw (eqb-true h q t, e) refl
        go false t = refl

first_done : (o : Option ℕ) → is_first o ≡ true → nearer o ≡ None
first_done None e = refl
first_done (Some zero) e = refl
first_done (Some (suc k)) e = never_true e

pub tally_picked : (pick : ℕ → Option ℕ) (xs : List Item) (q : ℕ) → tally xs q (picked pick xs) ≤ 1
tally_picked pick [] q = omega arith
tally_picked pick (x ∷ xs) q = any x.home (tally_picked (past pick x.home) xs q) (tally_unpicked (past pick x.home) xs q)
  where
    any : (h : Option ℕ) → tally xs q (picked (past pick h) xs) ≤ 1 → (past pick h q ≡ None → tally xs q (picked (past pick h) xs) ≡ 0)
        → cond (at_home h q) (bit (takes pick h)) 0 + tally xs q (picked (past pick h) xs) ≤ 1
    any None ih z = omega arith
    any (Some h) ih z = go (eqb h q) refl
      where
        go : (b : Bool) → eqb h q ≡ b → cond b (bit (is_first (pick h))) 0 + tally xs q (picked (past pick (Some h)) xs) ≤ 1
        go true t = omega (arith, ap (λ k. bit (is_first (pick k))) (eqb-true h q t), one_pick (pick q) (tally xs q (picked (past pick (Some h)) xs)) (λ e. z (past_home pick h q t ∙ first_done (pick q) e)) ih)
        go false t = omega arith

-- What is picked goes by the home alone.
pub picked_by_home : (pick pick' : ℕ → Option ℕ) (xs : List Item) (i q : ℕ) → (item_at xs i).home ≡ Some q → pick q ≡ pick' q
    → picked pick xs i ≡ picked pick' xs i
picked_by_home pick pick' [] i q e g = refl
picked_by_home pick pick' (x ∷ xs) zero q e g = rw e (ap is_first g)
picked_by_home pick pick' (x ∷ xs) (suc i) q e g = picked_by_home (past pick x.home) (past pick' x.home) xs i q e (ap (λ o. cond (at_home x.home q) (nearer o) o) g)

-- ---- a tick, and new jobs, leave the homes

pub picked_spent : (named : ℕ → Bool) (pick : ℕ → Option ℕ) (xs : List Item) (i : ℕ) → picked pick (spend_items named xs) i ≡ picked pick xs i
picked_spent named pick [] i = refl
picked_spent named pick (x ∷ xs) zero = refl
picked_spent named pick (x ∷ xs) (suc i) = picked_spent (λ k. named (suc k)) (past pick x.home) xs i

pub tally_spent : (named : ℕ → Bool) (xs : List Item) (q : ℕ) (p : ℕ → Bool) → tally (spend_items named xs) q p ≡ tally xs q p
tally_spent named [] q p = refl
tally_spent named (x ∷ xs) q p = ap (λ n. cond (at_home x.home q) (bit (p 0)) 0 + n) (tally_spent (λ k. named (suc k)) xs q (λ i. p (suc i)))

pub home_renewed : (f : ℕ) {xs ys : List Item} → RenewedItems f xs ys → (i : ℕ) → (item_at ys i).home ≡ (item_at xs i).home
home_renewed f end i = refl
home_renewed f (next h r rs) zero = h
home_renewed f (next h r rs) (suc i) = home_renewed f rs i

pub picked_renewed : (f : ℕ) {xs ys : List Item} → RenewedItems f xs ys → (pick : ℕ → Option ℕ) (i : ℕ) → picked pick ys i ≡ picked pick xs i
picked_renewed f end pick i = refl
picked_renewed f (next {x} h r rs) pick zero = ap (takes pick) h
picked_renewed f (next {x} {y} {xs} {ys} h r rs) pick (suc i) = ap (λ o. picked (past pick o) ys i) h ∙ picked_renewed f rs (past pick x.home) i

pub tally_renewed : (f : ℕ) {xs ys : List Item} → RenewedItems f xs ys → (q : ℕ) (p : ℕ → Bool) → tally ys q p ≡ tally xs q p
tally_renewed f end q p = refl
tally_renewed f (next {x} {y} {xs} {ys} h r rs) q p = omega (arith, ap (λ o. cond (at_home o q) (bit (p 0)) 0) h, tally_renewed f rs q (λ i. p (suc i)))
