-- How many servers a packing opens, and how many levels a plan has. Assumes nothing.
use Rattle.std.proofs.Common.{◌≡◌, ℕ, zero, suc, ◌+◌, ◌-◌, ◌*◌, ◌<◌, ◌≤◌, ◌≢◌, ◌⊎◌, List, [], ◌∷◌, length, get_or, sum, sym, refl, ap, ◌∙◌, subst, inl, inr, ⊎_elim, mul_assoc, suc-mul, mul_comm, lt_of_mul-lt-mul_right, zero-mul, le_of_mul-le-mul_right, arith}
use native.Mathlib.Nat.{mul-sub, eq_of_mul-eq-mul_right}
use Rattle.std.specs.List.{AllByRecursion}
use Rattle.std.proofs.lemmas.List.{length-set, length_push, length-map, get_or_push, get_or-map}
use Rattle.std.proofs.lemmas.List.Sums.{sum_by-cons}
use Rattle.std.proofs.ByRecursion.{sum_by_le, All-get_or, All-map, All-weaker}
use Rattle.std.proofs.lemmas.Bool.{cases_eq, cases_lt}
use Rattle.packing.specs.Fitting.{Rule, Lawful}
use Rattle.packing.specs.Packing.{Packing, packing_of, used_after, filled, servers_of, Within, Crowded, Sound}
use Rattle.packing.specs.Plan.{duals, OnlyRoots, IsPlan, SoundLevels, Sized, Cored, onward, climb, EndsInRoot, FullCores, OneSmallPlan}
use Rattle.packing.proofs.Laws.{none_room}
use Rattle.packing.proofs.Sounds.{one_item, sound_packing}

-- ---- the rates of a level sum to a multiple of the unit

pub sum_duals : (unit : ℕ) (xs : List ℕ) → AllByRecursion (Within unit) xs → sum (duals unit xs) + sum xs ≡ length xs * unit
sum_duals unit [] all = omega (arith, zero-mul unit)
sum_duals unit (x ∷ xs) all =
    omega (arith, sum_duals unit xs all.1, all.0, sum_by-cons (λ y. y) x xs, sum_by-cons (λ y. y) (unit - x) (duals unit xs), suc-mul (length xs) unit)

-- ---- servers of which any two are above the unit

last : ℕ → List ℕ → ℕ
last x [] = x
last x (y ∷ ys) = last y ys

last_is : (x : ℕ) (xs : List ℕ) → last x xs ≡ get_or (x ∷ xs) (length xs) 0
unfolding last
last_is x [] = refl
last_is x (y ∷ ys) = last_is y ys

crowded_tail : (unit x : ℕ) (xs : List ℕ) → Crowded unit (x ∷ xs) → Crowded unit xs
crowded_tail unit x xs c i j below len = c (suc i) (suc j) (omega arith) (omega arith)

-- neighbours are above the unit, so twice the sum is above that of all but the ends
chain : (unit x : ℕ) (xs : List ℕ) → Crowded unit (x ∷ xs) → length xs * unit + x + last x xs ≤ 2 * sum (x ∷ xs)
unfolding last
chain unit x [] c = omega (arith, zero-mul unit, sum_by-cons (λ y. y) x [])
chain unit x (y ∷ ys) c =
    omega (
      arith,
      chain unit y ys (crowded_tail unit x (y ∷ ys) c),
      c 0 1 (omega arith) (omega arith),
      sum_by-cons (λ z. z) x (y ∷ ys),
      suc-mul (length ys) unit,
    )

pub crowd : (unit : ℕ) (xs : List ℕ) → Crowded unit xs → 2 ≤ length xs → length xs * unit < 2 * sum xs
crowd unit [] c h = absurd (omega arith)
crowd unit (x ∷ []) c h = absurd (omega arith)
crowd unit (x ∷ y ∷ ys) c h =
    omega (arith, chain unit x (y ∷ ys) c, last_is x (y ∷ ys), c 0 (suc (length ys)) (omega arith) (omega arith), suc-mul (length (y ∷ ys)) unit)

-- fewer servers than twice the cores
pub few_servers : (unit cores : ℕ) (xs : List ℕ) → Crowded unit xs → 1 ≤ cores → sum xs ≡ cores * unit → length xs < 2 * cores
few_servers unit cores xs c some full =
    ⊎_elim
    (λ (small : length xs < 2). omega arith)
    (λ (large : 2 ≤ length xs).
    let above : length xs * unit < (2 * cores) * unit = omega (arith, crowd unit xs c large, mul_assoc 2 cores unit) in
    lt_of_mul-lt-mul_right unit above)
    (cases_lt (length xs) 2)

-- ---- items of which any two fit into one server

abbrev Friendly : ℕ → List ℕ → Type 0
Friendly unit xs = (i j : ℕ) → i < j → j < length xs → get_or xs i 0 + get_or xs j 0 ≤ unit

friendly_duals : (unit : ℕ) (xs : List ℕ) → Crowded unit xs → Friendly unit (duals unit xs)
friendly_duals unit xs c i j below len =
    let len' : j < length xs = omega (arith, length-map xs (λ x. unit - x)) in
    omega (arith, c i j below len', get_or-map (λ x. unit - x) xs i 0 0 (omega arith), get_or-map (λ x. unit - x) xs j 0 0 len')

-- After n items: two for each server, or one is missing, and then a server has room for any item to come.
abbrev Paired : ℕ → ℕ → List ℕ → List ℕ → Type 0
Paired unit n used xs =
    (2 * length used ≤ n)
    ⊎ ((2 * length used ≤ n + 1) × ((k : ℕ) × (k < length used) × ((i : ℕ) → i < length xs → get_or used k 0 + get_or xs i 0 ≤ unit)))

module _ (rule : Rule) (lawful : Lawful rule) (unit : ℕ) where
  step_paired : (n : ℕ) (used : List ℕ) (x : ℕ) (xs : List ℕ) → Friendly unit (x ∷ xs) → Paired unit n used (x ∷ xs)
      → Paired unit (n + 1) (used_after rule unit used x) xs
  step_paired n used x xs friends before =
      one_item rule unit used x (λ ps _. Paired unit (n + 1) ps xs)
      (λ _.
      ⊎_elim
      (λ even. inl (omega arith))
      (λ odd. inr (omega arith, (odd.1.0, odd.1.1, λ i h. odd.1.2 (suc i) (omega arith))))
      before)
      (λ k _ _.
      let same = length-set used k (get_or used k 0 + x) in
      ⊎_elim (λ even. inl (omega arith)) (λ odd. inl (omega (arith, odd.0))) before)
      (λ _ e.
      let more = length_push used x in
      ⊎_elim
      (λ even. inr (omega arith, (length used, omega arith, λ i h. omega (arith, get_or_push used x 0 (length used) refl, friends 0 (suc i) (omega arith) (omega arith)))))
      (λ odd. absurd (omega (arith, odd.1.2 0 (omega arith), none_room rule lawful used unit x e odd.1.0 odd.1.1)))
      before)

  filled_paired : (n : ℕ) (used xs : List ℕ) → Friendly unit xs → Paired unit n used xs → 2 * length (filled rule unit used xs) ≤ n + length xs + 1
  filled_paired n used [] friends before = ⊎_elim (λ even. omega arith) (λ odd. omega (arith, odd.0)) before
  filled_paired n used (x ∷ xs) friends before =
      omega (arith, filled_paired (n + 1) (used_after rule unit used x) xs (λ i j below len. friends (suc i) (suc j) (omega arith) (omega arith)) (step_paired n used x xs friends before))

  -- the level above has half as many servers, rounded up
  pub half_servers : (xs : List ℕ) → Crowded unit xs → 2 * length (servers_of rule unit (duals unit xs)) ≤ length xs + 1
  half_servers xs c =
      omega (arith, filled_paired 0 [] (duals unit xs) (friendly_duals unit xs c) (inl (omega arith)), length-map xs (λ x. unit - x))

-- ---- a level with at most two servers has only roots

multiple_one : (m unit y : ℕ) → y ≡ m * unit → 0 < y → unit ≤ y
multiple_one zero unit y e h = absurd (omega (arith, zero-mul unit))
multiple_one (suc m) unit y e h = omega (arith, suc-mul m unit)

multiple_two : (m unit y : ℕ) → y ≡ m * unit → unit < y → 2 * unit ≤ y
multiple_two zero unit y e h = absurd (omega (arith, zero-mul unit))
multiple_two (suc zero) unit y e h = absurd (omega (arith, suc-mul 0 unit, zero-mul unit))
multiple_two (suc (suc m)) unit y e h = omega (arith, suc-mul (suc m) unit, suc-mul m unit)

pub few_roots : (unit m : ℕ) (xs : List ℕ) → AllByRecursion (Within unit) xs → Crowded unit xs → sum xs ≡ m * unit → length xs ≤ 2 → OnlyRoots unit xs
few_roots unit m [] all c full h = tt
few_roots unit m (x ∷ []) all c full h =
    let total : x ≡ m * unit = omega (arith, sum_by-cons (λ y. y) x []) in
    (omega (arith, multiple_one m unit x total (omega arith), all.0), tt)
few_roots unit m (x ∷ y ∷ []) all c full h =
    let total : x + y ≡ m * unit = omega (arith, sum_by-cons (λ z. z) x (y ∷ []), sum_by-cons (λ z. z) y []) in
    let two = multiple_two m unit (x + y) total (c 0 1 (omega arith) (omega arith)) in
    (omega (arith, all.0, all.1.0), (omega (arith, all.0, all.1.0), tt))
few_roots unit m (x ∷ y ∷ z ∷ zs) all c full h = absurd (omega arith)

pub sum_roots : (unit : ℕ) (xs : List ℕ) → OnlyRoots unit xs → sum xs ≡ length xs * unit
sum_roots unit [] roots = omega (arith, zero-mul unit)
sum_roots unit (x ∷ xs) roots = omega (arith, sum_roots unit xs roots.1, roots.0, sum_by-cons (λ y. y) x xs, suc-mul (length xs) unit)

-- either all are roots or not
roots_or_not : (unit : ℕ) (xs : List ℕ) → OnlyRoots unit xs ⊎ (OnlyRoots unit xs → ⊥)
roots_or_not unit [] = inl tt
roots_or_not unit (x ∷ xs) =
    ⊎_elim
    (λ root. ⊎_elim (λ rest. inl (root, rest)) (λ other. inr (λ all. other all.1)) (roots_or_not unit xs))
    (λ other. inr (λ all. other all.0))
    (cases_eq x unit)

-- ---- plans

-- the most servers of a level that has k levels above it, and of all levels from there on
abbrev most : ℕ → ℕ
most zero = 2
most (suc k) = most k + most k

abbrev bounds : ℕ → List ℕ
bounds zero = 2 ∷ []
bounds (suc k) = most (suc k) ∷ bounds k

pub sized_length : (ns : List ℕ) (ls : List Packing) → Sized ns ls → length ls ≤ length ns
sized_length ns [] s = omega arith
sized_length [] (l ∷ ls) s = absurd s
sized_length (n ∷ ns) (l ∷ ls) s = omega (arith, sized_length ns ls s.1)

module _ (rule : Rule) (lawful : Lawful rule) (unit : ℕ) where
  -- items that fill a number of cores
  abbrev Fills : List ℕ → Type 0
  Fills items = AllByRecursion (λ x. x ≤ unit) items × ((m : ℕ) × (sum items ≡ m * unit))

  servers_sum : (items : List ℕ) (f : Fills items) → sum (servers_of rule unit items) ≡ f.1.0 * unit
  servers_sum items f = (sound_packing rule lawful unit items f.0).sums ∙ f.1.1

  -- there are at least as many servers as cores
  cores_le : 1 ≤ unit → (items : List ℕ) (f : Fills items) → f.1.0 ≤ length (servers_of rule unit items)
  cores_le some items f =
      let s : List ℕ = servers_of rule unit items in
      let within : AllByRecursion (λ x. x ≤ unit) s = All-weaker (Within unit) (λ x. x ≤ unit) (λ x h. h.1) s (sound_packing rule lawful unit items f.0).within in
      let least : f.1.0 * unit ≤ length s * unit = omega (arith, servers_sum items f, sum_by_le (λ x. x) unit s within) in
      le_of_mul-le-mul_right least some

  -- the duals fill the servers that the cores leave
  duals_fill : (items : List ℕ) → Fills items → Fills (duals unit (servers_of rule unit items))
  duals_fill items f =
      let s : List ℕ = servers_of rule unit items in
      let m : ℕ = f.1.0 in (
        All-map (λ x. x ≤ unit) (λ x. unit - x) s (All-weaker (Within unit) (λ x. unit - x ≤ unit) (λ x _. omega arith) s (sound_packing rule lawful unit items f.0).within),
        (
          length s - m,
          omega (
            arith,
            sum_duals unit s (sound_packing rule lawful unit items f.0).within,
            servers_sum items f,
            mul-sub unit (length s) m,
            mul_comm unit (length s),
            mul_comm unit m,
            mul_comm unit (length s - m),
          ),
        ),
      )

  halves : (k : ℕ) (items : List ℕ) → Fills items → length (servers_of rule unit items) ≤ most (suc k)
      → length (servers_of rule unit (duals unit (servers_of rule unit items))) ≤ most k
  halves k items f h = omega (arith, half_servers rule lawful unit (servers_of rule unit items) (sound_packing rule lawful unit items f.0).crowded)

  top : (items : List ℕ) → Fills items → length (servers_of rule unit items) ≤ most 0 → OnlyRoots unit (servers_of rule unit items)
  top items f h =
      few_roots unit f.1.0 (servers_of rule unit items) (sound_packing rule lawful unit items f.0).within (sound_packing rule lawful unit items f.0).crowded (servers_sum items f) h

  -- every plan is small
  sized : (k : ℕ) (items : List ℕ) → Fills items → length (servers_of rule unit items) ≤ most k
      → (levels : List Packing) → IsPlan rule unit items levels → Sized (bounds k) levels
  sized k items f h [] p = absurd p
  sized zero items f h (l ∷ []) p = (omega (arith, ap (λ x. length x.rates) p.0), tt)
  sized (suc k) items f h (l ∷ []) p = (omega (arith, ap (λ x. length x.rates) p.0), tt)
  sized zero items f h (l ∷ next ∷ ls) p = absurd (p.1 (subst (λ x. OnlyRoots unit x.rates) (sym p.0) (top items f h)))
  sized (suc k) items f h (l ∷ next ∷ ls) p = (
    omega (arith, ap (λ x. length x.rates) p.0),
    sized k (duals unit (servers_of rule unit items)) (duals_fill items f) (halves k items f h) (next ∷ ls)
        (subst (λ x. IsPlan rule unit (duals unit x.rates) (next ∷ ls)) p.0 p.2),
  )

  -- and there is one
  below : (items : List ℕ) → (OnlyRoots unit (servers_of rule unit items) → ⊥)
      → (ls : List Packing) → IsPlan rule unit (duals unit (servers_of rule unit items)) ls → IsPlan rule unit items (packing_of rule unit items ∷ ls)
  below items other [] p = absurd p
  below items other (next ∷ ls) p = (refl, other, p)

  plan : (k : ℕ) (items : List ℕ) → Fills items → length (servers_of rule unit items) ≤ most k → (levels : List Packing) × IsPlan rule unit items levels
  plan zero items f h = (packing_of rule unit items ∷ [], (refl, top items f h))
  plan (suc k) items f h =
      let rest = plan k (duals unit (servers_of rule unit items)) (duals_fill items f) (halves k items f h) in
      ⊎_elim
      (λ roots. (packing_of rule unit items ∷ [], (refl, roots)))
      (λ other. (packing_of rule unit items ∷ rest.0, below items other rest.0 rest.1))
      (roots_or_not unit (servers_of rule unit items))

  -- the cores of each level
  cored : 1 ≤ unit → (items : List ℕ) (f : Fills items) → (levels : List Packing) → IsPlan rule unit items levels → Cored unit f.1.0 levels
  unfolding duals_fill
  cored some items f [] p = tt
  cored some items f (l ∷ []) p =
      let total : sum l.rates ≡ f.1.0 * unit = ap (λ x. sum x.rates) p.0 ∙ servers_sum items f in
      (total, eq_of_mul-eq-mul_right unit some (length l.rates) f.1.0 (sym (sum_roots unit l.rates p.1) ∙ total))
  cored some items f (l ∷ next ∷ ls) p =
      let same : l.rates ≡ servers_of rule unit items = ap (λ x. x.rates) p.0 in (
        ap sum same ∙ servers_sum items f,
        omega (arith, cores_le some items f, ap length same),
        subst (λ x. Cored unit (length x - f.1.0) (next ∷ ls)) (sym same)
            (cored some (duals unit (servers_of rule unit items)) (duals_fill items f) (next ∷ ls)
            (subst (λ x. IsPlan rule unit (duals unit x) (next ∷ ls)) same p.2)),
      )

  -- every level is sound
  sound_levels : (items : List ℕ) → Fills items → (levels : List Packing) → IsPlan rule unit items levels → SoundLevels unit items levels
  sound_levels items f [] p = absurd p
  sound_levels items f (l ∷ []) p = (subst (Sound unit items) (sym p.0) (sound_packing rule lawful unit items f.0), tt)
  sound_levels items f (l ∷ next ∷ ls) p =
      let same : l.rates ≡ servers_of rule unit items = ap (λ x. x.rates) p.0 in (
        subst (Sound unit items) (sym p.0) (sound_packing rule lawful unit items f.0),
        subst (λ x. SoundLevels unit (duals unit x) (next ∷ ls)) (sym same)
            (sound_levels (duals unit (servers_of rule unit items)) (duals_fill items f) (next ∷ ls) (subst (λ x. IsPlan rule unit (duals unit x) (next ∷ ls)) same p.2)),
      )

  -- from every item the way up ends in a root
  climbs : (items : List ℕ) → Fills items → (levels : List Packing) → IsPlan rule unit items levels
      → (i : ℕ) → i < length items → get_or items i 0 ≢ 0 → EndsInRoot unit levels (climb levels i)
  climbs items f [] p i below some = absurd p
  climbs items f (l ∷ []) p i below some =
      let sound : Sound unit items l = subst (Sound unit items) (sym p.0) (sound_packing rule lawful unit items f.0) in
      let home = sound.housed i below some in
      subst (λ h. EndsInRoot unit (l ∷ []) (onward h (climb []))) (sym home.1) (All-get_or (λ x. x ≡ unit) l.rates home.0 0 home.2 p.1)
  climbs items f (l ∷ next ∷ above) p i below some =
      let sound : Sound unit items l = subst (Sound unit items) (sym p.0) (sound_packing rule lawful unit items f.0) in
      let home = sound.housed i below some in
      let j : ℕ = home.0 in
      let same : l.rates ≡ servers_of rule unit items = ap (λ x. x.rates) p.0 in
      let rest_fills : Fills (duals unit l.rates) = subst (λ x. Fills (duals unit x)) (sym same) (duals_fill items f) in
      let dual : get_or (duals unit l.rates) j 0 ≡ unit - get_or l.rates j 0 = get_or-map (λ x. unit - x) l.rates j 0 0 home.2 in
      let in_duals : j < length (duals unit l.rates) = omega (arith, home.2, length-map l.rates (λ x. unit - x)) in
      let within : Within unit (get_or l.rates j 0) = All-get_or (Within unit) l.rates j 0 home.2 sound.within in
      subst (λ h. EndsInRoot unit (l ∷ next ∷ above) (onward h (climb (next ∷ above)))) (sym home.1)
      (⊎_elim
      (λ root.
      let none = no_dual (duals unit l.rates) rest_fills (next ∷ above) p.2 j in_duals (omega (arith, dual, root)) in
      subst (λ way. EndsInRoot unit (l ∷ next ∷ above) (j ∷ way)) (sym none) root)
      (λ other. one_up l j (next ∷ above) (climb (next ∷ above) j) (climbs (duals unit l.rates) rest_fills (next ∷ above) p.2 j in_duals (omega (arith, dual, within.1))))
      (cases_eq (get_or l.rates j 0) unit))
    where
      one_up : (l : Packing) (j : ℕ) (levels : List Packing) (way : List ℕ) → EndsInRoot unit levels way → EndsInRoot unit (l ∷ levels) (j ∷ way)
      one_up l j levels [] e = absurd e
      one_up l j levels (k ∷ way) e = e

      no_dual : (items : List ℕ) → Fills items → (levels : List Packing) → IsPlan rule unit items levels → (j : ℕ) → j < length items → get_or items j 0 ≡ 0 → climb levels j ≡ []
      no_dual items f [] p j below none = refl
      no_dual items f (l ∷ []) p j below none =
          ap (λ h. onward h (climb [])) ((subst (Sound unit items) (sym p.0) (sound_packing rule lawful unit items f.0)).unhoused j below none)
      no_dual items f (l ∷ next ∷ above) p j below none =
          ap (λ h. onward h (climb (next ∷ above))) ((subst (Sound unit items) (sym p.0) (sound_packing rule lawful unit items f.0)).unhoused j below none)

-- one plan at most
same_plan : (rule : Rule) (unit : ℕ) (items : List ℕ) (a b : List Packing) → IsPlan rule unit items a → IsPlan rule unit items b → a ≡ b
same_plan rule unit items [] b p q = absurd p
same_plan rule unit items (l ∷ []) [] p q = absurd q
same_plan rule unit items (l ∷ []) (m ∷ []) p q = ap (λ x. x ∷ []) (p.0 ∙ sym q.0)
same_plan rule unit items (l ∷ []) (m ∷ next ∷ ms) p q = absurd (q.1 (subst (λ x. OnlyRoots unit x.rates) (p.0 ∙ sym q.0) p.1))
same_plan rule unit items (l ∷ next ∷ ls) [] p q = absurd q
same_plan rule unit items (l ∷ next ∷ ls) (m ∷ []) p q = absurd (p.1 (subst (λ x. OnlyRoots unit x.rates) (q.0 ∙ sym p.0) q.1))
same_plan rule unit items (l ∷ next ∷ ls) (m ∷ next' ∷ ms) p q =
    let same : l ≡ m = p.0 ∙ sym q.0 in
    let rest : ◌≡◌ {A = List Packing} (next ∷ ls) (next' ∷ ms) =
    same_plan rule unit (duals unit l.rates) (next ∷ ls) (next' ∷ ms) p.2 (subst (λ x. IsPlan rule unit (duals unit x.rates) (next' ∷ ms)) (sym same) q.2) in
    ap (λ x. x ∷ next ∷ ls) same ∙ ap (λ xs. m ∷ xs) rest

first_sized : (rule : Rule) (unit : ℕ) (items : List ℕ) (n : ℕ) (ns : List ℕ) → length (servers_of rule unit items) ≤ n
    → (levels : List Packing) → IsPlan rule unit items levels → (m : ℕ) → Sized (m ∷ ns) levels → Sized (n ∷ ns) levels
first_sized rule unit items n ns h [] p m s = tt
first_sized rule unit items n ns h (l ∷ []) p m s = (omega (arith, ap (λ x. length x.rates) p.0), s.1)
first_sized rule unit items n ns h (l ∷ next ∷ ls) p m s = (omega (arith, ap (λ x. length x.rates) p.0), s.1)

-- ---- the theorem

pub one_small_plan : (rule : Rule) → Lawful rule → (unit cores : ℕ) (items : List ℕ) → FullCores unit cores items → OneSmallPlan rule unit cores items
one_small_plan rule lawful unit cores items full =
    let fills : Fills rule lawful unit items = (All-weaker (Within unit) (λ x. x ≤ unit) (λ x h. h.1) items full.within, (cores, full.full)) in
    let few : length (servers_of rule unit items) < 2 * cores =
    few_servers unit cores (servers_of rule unit items) (sound_packing rule lawful unit items fills.0).crowded full.a_core (servers_sum rule lawful unit items fills) in
    let fits : length (servers_of rule unit items) ≤ most 4 = omega (arith, full.few_cores) in
    let made = plan rule lawful unit 4 items fills fits in
    let levels : List Packing = made.0 in
    let is_plan : IsPlan rule unit items levels = made.1 in
    let small : Sized (bounds 4) levels = sized rule lawful unit 4 items fills fits levels is_plan in
    record {
      levels = levels;
      is_plan = is_plan;
      only = λ other p. same_plan rule unit items other levels p is_plan;
      few_reductions = omega (arith, sized_length (bounds 4) levels small);
      sized = first_sized rule unit items 31 (16 ∷ 8 ∷ 4 ∷ 2 ∷ []) (omega (arith, full.few_cores)) levels is_plan 32 small;
      sound = sound_levels rule lawful unit items fills levels is_plan;
      cored = cored rule lawful unit full.a_unit items fills levels is_plan;
      climbs = λ i below. climbs rule lawful unit items fills levels is_plan i below (omega (arith, (All-get_or (Within unit) items i 0 below full.within).0));
    }
