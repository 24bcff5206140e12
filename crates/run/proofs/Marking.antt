-- Items marked server by server are the items that are picked. Assumes nothing.
use Rattle.std.proofs.Common.{◌≡◌, ℕ, zero, suc, ◌+◌, ◌<◌, ◌≤◌, Bool, true, false, cond, ◌||◌, eqb, ltb, ◌≢◌, List, [], ◌∷◌, length, get_or, replicate, Some, None, Option, sym, refl, ap, ◌∙◌, inl, inr, zero-add, arith, get_or-set_other, get_or-set_same}
use Rattle.std.proofs.lemmas.List.{length-set}
use Rattle.std.proofs.lemmas.Bool.{cases_eq, cases_lt, cond-false, cond-true, eq-eqb, eqb-false, eqb-true, le-ltb, lt-ltb, ne_eqb}
use Rattle.packing.specs.Packing.{at_home}
use Rattle.levels.specs.Ticking.{Rules, is_first, named, nearer, past, picked, takes}
use Rattle.levels.specs.declared.item.Item.{Item}
use Rattle.levels.specs.declared.server.Server.{Server}
use Rattle.run.specs.Turns.{Placed, marked, place_of, places_from}
use Rattle.run.specs.Views.{flags}
use Rattle.run.proofs.Tables.{get_or_blank}

-- ---- nothing past the items

picked_past : (p : ℕ → Option ℕ) (xs : List Item) (i : ℕ) → length xs ≤ i → picked p xs i ≡ false
picked_past p [] i h = refl
picked_past p (x ∷ xs) zero h = absurd (omega arith)
picked_past p (x ∷ xs) (suc i) h = picked_past (past p x.home) xs i (omega arith)

pub named_past : (rules : Rules) (unit : ℕ) (xs : List Item) (levels : List (List Server)) (i : ℕ) → length xs ≤ i → named rules unit xs levels i ≡ false
named_past rules unit xs [] i h = refl
named_past rules unit xs (ss ∷ above) i h = picked_past _ xs i h

-- ---- places

-- The test that the place is i.
abbrev is_at : Option ℕ → ℕ → Bool
is_at None i = false
is_at (Some q) i = eqb i q

pub place_within : (k : ℕ) (ps : List ℕ) → k < length ps → Some (get_or ps k 0) ≡ place_of (Some k) ps
place_within k [] h = absurd (omega arith)
place_within zero (i ∷ ps) h = refl
place_within (suc k) (i ∷ ps) h = place_within k ps (omega arith)

pub place_past : (k : ℕ) (ps : List ℕ) → length ps ≤ k → None ≡ place_of (Some k) ps
place_past k [] h = refl
place_past zero (i ∷ ps) h = absurd (omega arith)
place_past (suc k) (i ∷ ps) h = place_past k ps (omega arith)

-- Every place is below the end of the items.
placed_next : (b : ℕ) (rest : List ℕ) → b < 80 → ((o : Option ℕ) → Placed (place_of o rest)) → (t : Bool) (o : Option ℕ) → Placed (place_of o (cond t (b ∷ rest) rest))
placed_next b rest h so false o = so o
placed_next b rest h so true None = tt
placed_next b rest h so true (Some zero) = h
placed_next b rest h so true (Some (suc k)) = so (Some k)

placed_from : (b : ℕ) (xs : List Item) (j : ℕ) → b + length xs ≤ 80 → (o : Option ℕ) → Placed (place_of o (places_from b xs j))
placed_from b xs j h None = tt
placed_from b [] j h (Some k) = tt
placed_from b (x ∷ xs) j h (Some k) = placed_next b (places_from (suc b) xs j) (omega arith) (placed_from (suc b) xs j (omega arith)) (at_home x.home j) (Some k)

pub placed : (xs : List Item) (j : ℕ) (o : Option ℕ) → length xs ≤ 80 → Placed (place_of o (places_from 0 xs j))
placed xs j o h = placed_from 0 xs j (omega arith) o

-- ---- one server more

or_false : (b : Bool) → (b || false) ≡ b
or_false true = refl
or_false false = refl

or_true : (b : Bool) → (b || true) ≡ true
or_true true = refl
or_true false = refl

none_nearer : (t : Bool) → cond t (nearer None) None ≡ None
none_nearer true = refl
none_nearer false = refl

module _ (b i : ℕ) (rest : List ℕ) where
  below_next : b ≢ i → ((o : Option ℕ) → is_at (place_of o rest) i ≡ false) → (t : Bool) (o : Option ℕ) → is_at (place_of o (cond t (b ∷ rest) rest)) i ≡ false
  below_next ne so false o = so o
  below_next ne so true None = refl
  below_next ne so true (Some zero) = ne_eqb i b (λ e. ne (sym e))
  below_next ne so true (Some (suc k)) = so (Some k)

  first_at : i ≡ b → ((o : Option ℕ) → is_at (place_of o rest) i ≡ false) → (o : Option ℕ) → is_first o ≡ is_at (place_of o (b ∷ rest)) i
  first_at e so None = refl
  first_at e so (Some zero) = sym (eq-eqb i b e)
  first_at e so (Some (suc k)) = sym (so (Some k))

  next_at : b ≢ i → (t : Bool) (o : Option ℕ) → is_at (place_of (cond t (nearer o) o) rest) i ≡ is_at (place_of o (cond t (b ∷ rest) rest)) i
  next_at ne false o = refl
  next_at ne true None = refl
  next_at ne true (Some zero) = sym (ne_eqb i b (λ e. ne (sym e)))
  next_at ne true (Some (suc k)) = refl

-- No place comes before the first.
before : (b : ℕ) (xs : List Item) (j i : ℕ) → i < b → (o : Option ℕ) → is_at (place_of o (places_from b xs j)) i ≡ false
before b xs j i h None = refl
before b [] j i h (Some k) = refl
before b (x ∷ xs) j i h (Some k) = let ne : b ≢ i = omega arith in below_next b i (places_from (suc b) xs j) ne (before (suc b) xs j i (omega arith)) (at_home x.home j) (Some k)

-- The item at the front, where only server j names another client.
module _ (p p' : ℕ → Option ℕ) (j b i : ℕ) (rest : List ℕ) (other : (q : ℕ) → q ≢ j → p' q ≡ p q) (none : p j ≡ None) (here : i ≡ b)
    (later : (o : Option ℕ) → is_at (place_of o rest) i ≡ false) where
  front_some : (h : ℕ) (t : Bool) → eqb h j ≡ t → is_first (p' h) ≡ (is_first (p h) || is_at (place_of (p' j) (cond t (b ∷ rest) rest)) i)
  front_some h true e =
      let same = eqb-true h j e in
      ap (λ n. is_first (p' n)) same ∙
      first_at b i rest here later (p' j) ∙
      sym (ap (λ o. is_first o || is_at (place_of (p' j) (b ∷ rest)) i) (ap p same ∙ none))
  front_some h false e =
      ap is_first (other h (eqb-false h j e)) ∙
      sym (ap (λ t. is_first (p h) || t) (later (p' j)) ∙ or_false (is_first (p h)))

  front : (h : Option ℕ) → takes p' h ≡ (takes p h || is_at (place_of (p' j) (cond (at_home h j) (b ∷ rest) rest)) i)
  front None = sym (later (p' j))
  front (Some h) = front_some h (eqb h j) refl

picked_one : (p p' : ℕ → Option ℕ) (j : ℕ) → ((q : ℕ) → q ≢ j → p' q ≡ p q) → p j ≡ None → (b : ℕ) (xs : List Item) (i : ℕ) →
    picked p' xs i ≡ (picked p xs i || is_at (place_of (p' j) (places_from b xs j)) (b + i))
picked_one p p' j other none b [] i = sym (before (suc (b + i)) [] j (b + i) (omega arith) (p' j))
picked_one p p' j other none b (x ∷ xs) zero =
    let e : b + 0 ≡ b = omega arith in
    front p p' j b (b + 0) (places_from (suc b) xs j) other none e (before (suc b) xs j (b + 0) (omega arith)) x.home
picked_one p p' j other none b (x ∷ xs) (suc i) =
    let ne : b ≢ b + suc i = omega arith in
    let e : suc b + i ≡ b + suc i = omega arith in
    let h = x.home in
    let rest = places_from (suc b) xs j in
    picked_one (past p h) (past p' h) j (λ q n. ap (λ o. cond (at_home h q) (nearer o) o) (other q n)) (ap (λ o. cond (at_home h j) (nearer o) o) none ∙ none_nearer (at_home h j)) (suc b) xs i ∙
    ap (λ t. picked (past p h) xs i || t) (
    ap (is_at (place_of (past p' h j) rest)) e ∙
    next_at b (b + suc i) rest ne (at_home h j) (p' j))

-- ---- all servers, one by one

-- What the servers below j name.
abbrev up_to : ℕ → (ℕ → Option ℕ) → ℕ → Option ℕ
up_to j p q = cond (ltb q j) (p q) None

up_other : (j : ℕ) (p : ℕ → Option ℕ) (q : ℕ) → q ≢ j → up_to (j + 1) p q ≡ up_to j p q
up_other j p q ne =
    elim (cases_lt q j) [
      | inl l ↦ cond-true (ltb q (j + 1)) (p q) None (lt-ltb q (j + 1) (omega arith)) ∙ sym (cond-true (ltb q j) (p q) None (lt-ltb q j l))
      | inr h ↦ cond-false (ltb q (j + 1)) (p q) None (le-ltb q (j + 1) (omega arith)) ∙ sym (cond-false (ltb q j) (p q) None (le-ltb q j h))
    ]

takes_none : (p : ℕ → Option ℕ) → ((q : ℕ) → p q ≡ None) → (h : Option ℕ) → takes p h ≡ false
takes_none p none None = refl
takes_none p none (Some h) = ap is_first (none h)

length_marked : (o : Option ℕ) (marks : List Bool) → length (marked o marks) ≡ length marks
length_marked None marks = refl
length_marked (Some i) marks = length-set marks i true

flag_one : (o : Option ℕ) (marks : List Bool) → Placed o → length marks ≡ 80 → (i : ℕ) → flags (marked o marks) i ≡ (flags marks i || is_at o i)
flag_one None marks h l i = sym (or_false (flags marks i))
flag_one (Some q) marks h l i =
    elim (cases_eq i q) [
      | inl e ↦
          ap (flags (marked (Some q) marks)) e ∙ get_or-set_same marks q true false (omega (arith, h, l)) ∙
          sym (ap (λ t. flags marks i || t) (eq-eqb i q e) ∙ or_true (flags marks i))
      | inr ne ↦ get_or-set_other marks q i true false ne ∙ sym (ap (λ t. flags marks i || t) (ne_eqb i q ne) ∙ or_false (flags marks i))
    ]

-- The marks are those of the clients that the servers below j name.
pub record Marking (p : ℕ → Option ℕ) (xs : List Item) (marks : List Bool) (j : ℕ) : Type 0 where
  pub long : length marks ≡ 80
  pub done : (i : ℕ) → flags marks i ≡ picked (up_to j p) xs i

picked_none : (p : ℕ → Option ℕ) → ((q : ℕ) → p q ≡ None) → (xs : List Item) (i : ℕ) → picked p xs i ≡ false
picked_none p none [] i = refl
picked_none p none (x ∷ xs) zero = takes_none p none x.home
picked_none p none (x ∷ xs) (suc i) =
    picked_none (past p x.home) (λ q. ap (λ o. cond (at_home x.home q) (nearer o) o) (none q) ∙ none_nearer (at_home x.home q)) xs i

pub marking_none : (p : ℕ → Option ℕ) (xs : List Item) → Marking p xs (replicate 80 false) 0
marking_none p xs = record {
  long = refl;
  done = λ i. get_or_blank false 80 i ∙ sym (picked_none (up_to 0 p) (λ q. cond-false (ltb q 0) (p q) None (le-ltb q 0 (omega arith))) xs i);
}

pub marking_more : (p : ℕ → Option ℕ) (xs : List Item) (marks new : List Bool) (j : ℕ) (o : Option ℕ) → Marking p xs marks j → o ≡ place_of (p j) (places_from 0 xs j) → Placed o → new ≡ marked o marks → Marking p xs new (j + 1)
marking_more p xs marks new j o so is within told = record {
  long = ap length told ∙ length_marked o marks ∙ so.long;
  done = λ i.
      ap (λ m. flags m i) told ∙
      flag_one o marks within so.long i ∙
      ap (λ t. t || is_at o i) (so.done i) ∙
      ap (λ q. picked (up_to j p) xs i || is_at q i) (is ∙ ap (λ r. place_of r (places_from 0 xs j)) (sym (cond-true (ltb j (j + 1)) (p j) None (lt-ltb j (j + 1) (omega arith))))) ∙
      ap (λ n. picked (up_to j p) xs i || is_at (place_of (up_to (j + 1) p j) (places_from 0 xs j)) n) (sym (zero-add i)) ∙
      sym (picked_one (up_to j p) (up_to (j + 1) p) j (up_other j p) (cond-false (ltb j j) (p j) None (le-ltb j j (omega arith))) 0 xs i);
}

pub marking_all : (p : ℕ → Option ℕ) (xs : List Item) (marks : List Bool) (j : ℕ) → Marking p xs marks j → ((q : ℕ) → j ≤ q → None ≡ p q) → (i : ℕ) → flags marks i ≡ picked p xs i
marking_all p xs marks j so none i =
    let same : (q : ℕ) → up_to j p q ≡ p q =
    λ q. elim (cases_lt q j) [
      | inl l ↦ cond-true (ltb q j) (p q) None (lt-ltb q j l)
      | inr h ↦ cond-false (ltb q j) (p q) None (le-ltb q j h) ∙ none q h
    ] in
    so.done i ∙ (λ t. picked (λ q. same q t) xs i)
