-- A plan that is built from below: the levels so far, and the next one. Assumes nothing.
use Rattle.std.proofs.Common.{◌≡◌, ℕ, ◌<◌, ◌≤◌, List, [], ◌∷◌, ◌++◌, map, length, IsSome, Some, None, Option, sym, refl, ap, ◌∙◌, subst, ⊎_elim, arith}
use Rattle.std.specs.List.{AllByRecursion}
use Rattle.std.proofs.lemmas.List.{append_assoc, length-append, length-map, map_push}
use Rattle.packing.specs.declared.level.Level.{Level}
use Rattle.packing.specs.Fitting.{Rule}
use Rattle.packing.specs.Made.{PackedLevel}
use Rattle.packing.specs.Packing.{Packing, packing_of, servers_of}
use Rattle.packing.specs.Plan.{duals, OnlyRoots, IsPlan, Sized, OneSmallPlan}
use Rattle.packing.specs.Tables.{level_table, packing_in}
use Rattle.packing.proofs.Plans.{sized_length}
use Rattle.packing.proofs.Tabled.{packing_back}

-- what is left of a plan begins with the packing of these items
module _ (rule : Rule) (unit : ℕ) (items : List ℕ) where
  -- a level that has only roots is the last
  last_level : (rest : List Packing) → IsPlan rule unit items rest → OnlyRoots unit (servers_of rule unit items) → rest ≡ packing_of rule unit items ∷ []
  last_level [] p roots = absurd p
  last_level (l ∷ []) p roots = ap (λ x. x ∷ []) p.0
  last_level (l ∷ next ∷ above) p roots = absurd (p.1 (subst (λ x. OnlyRoots unit x.rates) (sym p.0) roots))

  -- any other is followed by the plan of its duals
  next_level : (rest : List Packing) → IsPlan rule unit items rest → (OnlyRoots unit (servers_of rule unit items) → ⊥)
      → (above : List Packing) × (rest ≡ packing_of rule unit items ∷ above) × IsPlan rule unit (duals unit (servers_of rule unit items)) above
  next_level [] p other = absurd p
  next_level (l ∷ []) p other = absurd (other (subst (λ x. OnlyRoots unit x.rates) p.0 p.1))
  next_level (l ∷ next ∷ above) p other =
      (next ∷ above, ap (λ x. x ∷ next ∷ above) p.0, subst (λ x. IsPlan rule unit (duals unit x.rates) (next ∷ above)) p.0 p.2)

  some_level : (rest : List Packing) → IsPlan rule unit items rest → 1 ≤ length rest
  some_level [] p = absurd p
  some_level (l ∷ above) p = omega arith

  -- the next level has at most as many servers as the greatest bound
  small_level : (most : ℕ) (bounds : List ℕ) (done rest : List Packing) → IsPlan rule unit items rest
      → AllByRecursion (λ n. n ≤ most) bounds → Sized bounds (done ++ rest) → length (servers_of rule unit items) ≤ most
  small_level most bounds [] [] p all s = absurd p
  small_level most [] [] (l ∷ above) p all s = absurd s
  small_level most (n ∷ bounds) [] (l ∷ []) p all s = omega (arith, s.0, all.0, ap (λ x. length x.rates) p.0)
  small_level most (n ∷ bounds) [] (l ∷ next ∷ above) p all s = omega (arith, s.0, all.0, ap (λ x. length x.rates) p.0)
  small_level most [] (d ∷ done) rest p all s = absurd s
  small_level most (n ∷ bounds) (d ∷ done) rest p all s = small_level most bounds done rest p all.1 s.1

-- `all` is the plan of the tasks: its first levels are at hand in their tables, and the rest is the plan of the items at hand
pub record Reached (rule : Rule) (unit : ℕ) (tasks : List ℕ) (tables : List Level) (items : List ℕ) : Type 0 where
  pub all : List Packing
  pub whole : IsPlan rule unit tasks all
  pub sized : Sized (31 ∷ 16 ∷ 8 ∷ 4 ∷ 2 ∷ []) all
  pub done : List Packing
  pub rest : List Packing
  pub split : all ≡ done ++ rest
  pub is_plan : IsPlan rule unit items rest
  pub written : tables ≡ map level_table done

-- the same, where the level of these items is at hand
pub record ReachedLevel (rule : Rule) (unit : ℕ) (tasks : List ℕ) (tables : List Level) (level : Level) : Type 0 where
  pub items : List ℕ
  pub packed : level ≡ level_table (packing_of rule unit items)
  pub reached : Reached rule unit tasks tables items

pub reached_none : (rule : Rule) (unit cores : ℕ) (tasks : List ℕ) → OneSmallPlan rule unit cores tasks → Reached rule unit tasks [] tasks
reached_none rule unit cores tasks one = record {
  all = one.levels;
  whole = one.is_plan;
  sized = one.sized;
  done = [];
  rest = one.levels;
  split = refl;
  is_plan = one.is_plan;
  written = refl;
}

-- there is room for the servers of the next level
pub few_servers : (rule : Rule) (unit : ℕ) (tasks : List ℕ) (tables : List Level) (items : List ℕ) → Reached rule unit tasks tables items
    → length (servers_of rule unit items) ≤ 31
few_servers rule unit tasks tables items before =
    small_level rule unit items 31 (31 ∷ 16 ∷ 8 ∷ 4 ∷ 2 ∷ []) before.done before.rest before.is_plan (omega arith)
    (subst (Sized (31 ∷ 16 ∷ 8 ∷ 4 ∷ 2 ∷ [])) before.split before.sized)

module _ (rule : Rule) (unit : ℕ) (tasks : List ℕ) (tables : List Level) (level : Level) (before : ReachedLevel rule unit tasks tables level) where
  -- there is room for this level
  pub few_levels : length tables < 5
  few_levels =
      omega (
        arith,
        some_level rule unit before.items before.reached.rest before.reached.is_plan,
        ap length before.reached.split,
        length-append before.reached.done before.reached.rest,
        length-map before.reached.done level_table,
        ap length before.reached.written,
        sized_length (31 ∷ 16 ∷ 8 ∷ 4 ∷ 2 ∷ []) before.reached.all before.reached.sized,
      )

  rates_are : servers_of rule unit before.items ≡ (packing_in level).rates
  rates_are = ap (λ p. p.rates) (sym (ap packing_in before.packed ∙ packing_back (packing_of rule unit before.items)))

  -- its table behind the others
  one_more : tables ++ level ∷ [] ≡ map level_table (before.reached.done ++ packing_of rule unit before.items ∷ [])
  one_more =
      ap (λ ls. ls ++ level ∷ []) before.reached.written
      ∙ ap (λ l. map level_table before.reached.done ++ l ∷ []) before.packed
      ∙ sym (map_push level_table before.reached.done (packing_of rule unit before.items))

  -- it is the last
  pub reached_all : OnlyRoots unit (packing_in level).rates → (levels : List Packing) × IsPlan rule unit tasks levels × (tables ++ level ∷ [] ≡ map level_table levels)
  reached_all roots =
      let last = last_level rule unit before.items before.reached.rest before.reached.is_plan (subst (OnlyRoots unit) (sym rates_are) roots) in (
        before.reached.done ++ packing_of rule unit before.items ∷ [],
        subst (IsPlan rule unit tasks) (before.reached.split ∙ ap (λ ls. before.reached.done ++ ls) last) before.reached.whole,
        one_more,
      )

  -- another follows
  pub reached_more : (OnlyRoots unit (packing_in level).rates → ⊥) → Reached rule unit tasks (tables ++ level ∷ []) (duals unit (packing_in level).rates)
  reached_more other =
      let next = next_level rule unit before.items before.reached.rest before.reached.is_plan (λ roots. other (subst (OnlyRoots unit) rates_are roots)) in
      record {
        all = before.reached.all;
        whole = before.reached.whole;
        sized = before.reached.sized;
        done = before.reached.done ++ packing_of rule unit before.items ∷ [];
        rest = next.0;
        split =
            before.reached.split
            ∙ ap (λ ls. before.reached.done ++ ls) next.1
            ∙ sym (append_assoc before.reached.done (packing_of rule unit before.items ∷ []) next.0);
        is_plan = subst (λ xs. IsPlan rule unit (duals unit xs) next.0) rates_are next.2;
        written = one_more;
      }

-- ---- the level that `pack` gives, where the slice has these items

module _ (rule : Rule) (unit : ℕ) (items slice : List ℕ) (same : slice ≡ items) (o : Option Level) (answer : PackedLevel rule unit slice o) where
  pub packed_some : length items ≤ 80 → length (servers_of rule unit items) ≤ 31 → IsSome o
  packed_some few fits = some o (subst (λ xs. PackedLevel rule unit xs o) same answer)
    where
      some : (o : Option Level) → PackedLevel rule unit items o → IsSome o
      some None many = absurd (⊎_elim (λ items. omega arith) (λ servers. omega arith) many)
      some (Some l) packed = refl

  pub packed_is : (l : Level) → o ≡ Some l → l ≡ level_table (packing_of rule unit items)
  packed_is l is = (subst (PackedLevel rule unit slice) is answer).2 ∙ ap (λ xs. level_table (packing_of rule unit xs)) same
