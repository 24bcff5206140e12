-- The fault that counts, once the lines before it are clean. Assumes nothing.
use Rattle.std.proofs.Common.{◌≡◌, ℕ, zero, suc, ◌+◌, ◌<◌, ◌≤◌, List, length, Ok, Err, Result, sym, refl, ap, ◌∙◌, subst, inl, inr, ⊎_elim, arith}
use Rattle.std.proofs.lemmas.Bool.{cases_eq, cases_Bool, cases_lt, false≢true}
use Rattle.sheet.specs.Faults.{line_at, line_place, field_at, field_place, forms, passes, There, Formed, Shaped, Holds, Applies, rank, Sooner, Before, First}
use Rattle.sheet.specs.Parts.{lines, fields}
use Rattle.sheet.specs.Reading.{fault, and_then}
use Rattle.sheet.specs.declared.fault.Cause.{Cause}
use Rattle.sheet.specs.declared.fault.Cause.TheVariants.{Bounds, Mark, Shape, Field, Repeated, Tasks, Opening}
use Rattle.sheet.specs.declared.fault.Fault.{Fault}
use Rattle.sheet.proofs.Extents.{extent_grows}

module _ (bs : List ℕ) where
  -- no row holds in the first n lines
  abbrev pub Clean : ℕ → Type 0
  Clean n = (f : Fault) → Applies bs f → f.line ≤ n → ⊥

  -- a refusal is by the fault that counts, and of an answer A holds
  abbrev pub ToldBy : {X : Type 0} → (X → Type 0) → Result X Fault → Type 0
  ToldBy A (Ok x) = A x
  ToldBy A (Err f) = First bs f

  pub then_told : {X Y : Type 0} (A : X → Type 0) (B : Y → Type 0) (r : Result X Fault) (g : X → Result Y Fault) →
      ToldBy A r → ((x : X) → A x → ToldBy B (g x)) → ToldBy B (and_then r g)
  then_told A B (Ok x) g a next = next x a
  then_told A B (Err f) g a next = a

  module _ (n k : ℕ) (after : k ≡ n + 1) (clean : Clean n) where
    pub first_here : (p : ℕ) (c : Cause) → Holds bs k p c → ((q : ℕ) (d : Cause) → Holds bs k q d → Sooner d q c p → ⊥) → First bs (fault k p c)
    first_here p c row none = (row, before)
      where
        before : (g : Fault) → Applies bs g → Before g (fault k p c) → ⊥
        before g a (inl less) = clean g a (omega arith)
        before g a (inr same) = none g.place g.cause (subst (λ l. Holds bs l g.place g.cause) same.0 a) same.1

    pub clean_more : ((q : ℕ) (d : Cause) → Holds bs k q d → ⊥) → Clean k
    clean_more none f a h =
        ⊎_elim (λ e. none f.place f.cause (subst (λ l. Holds bs l f.place f.cause) e a)) (λ d. clean f a (omega arith)) (cases_eq f.line k)

    -- lines that are not there, and one too many
    pub missing_first : 2 ≤ k → k ≤ 4 → length (lines bs) < k → First bs (fault k (length bs) Shape)
    missing_first two four short = first_here (length bs) Shape (inr (two, four, short, refl)) none
      where
        none : (q : ℕ) (d : Cause) → Holds bs k q d → Sooner d q Shape (length bs) → ⊥
        none q Bounds r s = let e = r.0 in omega arith
        none q Mark r s = let e = r.0 in omega arith
        none q Tasks (inl r) s = let e = r.0 in omega arith
        none q Tasks (inr r) s = let e = r.0 in omega arith
        none q Shape r (inl s) = omega arith
        none q Shape (inl r) (inr s) = let h = r.0.1 in omega arith
        none q Shape (inr r) (inr s) = let e = r.3 in let less = s.1 in omega arith
        none q Field r (inl s) = omega arith
        none q Field r (inr s) = let same = s.0 in omega arith
        none q Repeated r (inl s) = omega arith
        none q Repeated r (inr s) = let same = s.0 in omega arith
        none q (Opening x) r s = r

    pub tasks_first : (p : ℕ) → Holds bs k p Tasks → First bs (fault k p Tasks)
    tasks_first p row = first_here p Tasks row none
      where
        one_place : (q : ℕ) → Holds bs k q Tasks → Holds bs k p Tasks → q < p → ⊥
        one_place q (inl r) (inl t) h = let e = r.2 in let f = t.2 in omega arith
        one_place q (inl r) (inr t) h = let e = r.0 in let f = t.0 in omega arith
        one_place q (inr r) (inl t) h = let e = r.0 in let f = t.0 in omega arith
        one_place q (inr r) (inr t) h = let e = r.2 in let f = t.2 in omega arith

        later : Holds bs k p Tasks → 5 ≤ k
        later (inl t) = let e = t.0 in omega arith
        later (inr t) = let e = t.0 in omega arith

        none : (q : ℕ) (d : Cause) → Holds bs k q d → Sooner d q Tasks p → ⊥
        none q Bounds r s = let e = r.0 in let h = later row in omega arith
        none q Mark r s = let e = r.0 in let h = later row in omega arith
        none q Tasks r (inl s) = omega arith
        none q Tasks r (inr s) = one_place q r row s.1
        none q Shape r (inl s) = omega arith
        none q Shape r (inr s) = let same = s.0 in omega arith
        none q Field r (inl s) = omega arith
        none q Field r (inr s) = let same = s.0 in omega arith
        none q Repeated r (inl s) = omega arith
        none q Repeated r (inr s) = let same = s.0 in omega arith
        none q (Opening x) r s = r

    -- a line from 2 to 68 that is there
    module _ (there : There bs k) (early : k ≤ 68) where
      no_tasks : (q : ℕ) → Holds bs k q Tasks → ⊥
      no_tasks q (inl r) = let e = r.0 in omega arith
      no_tasks q (inr r) = let e = r.1 in let h = there.1 in omega arith

      no_bounds : (q : ℕ) → Holds bs k q Bounds → ⊥
      no_bounds q r = let e = r.0 in let h = there.0 in omega arith

      no_mark : (q : ℕ) → Holds bs k q Mark → ⊥
      no_mark q r = let e = r.0 in let h = there.0 in omega arith

      misshapen : (q : ℕ) → Holds bs k q Shape → (q ≡ line_place bs k) × (Shaped bs k → ⊥)
      misshapen q (inl r) = (r.1, r.2)
      misshapen q (inr r) = let e = r.2 in let h = there.1 in absurd (omega arith)

      pub shape_first : (Shaped bs k → ⊥) → (p : ℕ) → p ≡ line_place bs k → First bs (fault k p Shape)
      shape_first wrong p e = first_here p Shape (inl (there, e, wrong)) none
        where
          none : (q : ℕ) (d : Cause) → Holds bs k q d → Sooner d q Shape p → ⊥
          none q Bounds r s = no_bounds q r
          none q Mark r s = no_mark q r
          none q Tasks r s = no_tasks q r
          none q Shape r (inl s) = omega arith
          none q Shape r (inr s) = let here = (misshapen q r).0 in let less = s.1 in omega arith
          none q Field r (inl s) = omega arith
          none q Field r (inr s) = let same = s.0 in omega arith
          none q Repeated r (inl s) = omega arith
          none q Repeated r (inr s) = let same = s.0 in omega arith
          none q (Opening x) r s = r

      module _ (shaped : Shaped bs k) where
        pub field_first : (i p : ℕ) → 1 ≤ i → p ≡ field_place bs k i → (Formed bs k i → ⊥) → ((j : ℕ) → 1 ≤ j → j < i → Formed bs k j) → First bs (fault k p Field)
        field_first i p some e wrong before = first_here p Field (there, shaped, (i, some, e, wrong)) none
          where
            none : (q : ℕ) (d : Cause) → Holds bs k q d → Sooner d q Field p → ⊥
            none q Bounds r s = no_bounds q r
            none q Mark r s = no_mark q r
            none q Tasks r s = no_tasks q r
            none q Shape r s = (misshapen q r).1 shaped
            none q Field r (inl s) = omega arith
            none q Field r (inr s) =
                let j : ℕ = r.2.0 in
                let here : q ≡ field_place bs k j = r.2.2 in
                let less : q < p = s.1 in
                ⊎_elim (λ h. r.2.3 (before j r.2.1 h)) (λ h. let grows = extent_grows (fields (line_at bs k)) i j h in omega arith) (cases_lt j i)
            none q Repeated r (inl s) = omega arith
            none q Repeated r (inr s) = let same = s.0 in omega arith
            none q (Opening x) r s = r

        module _ (formed : (i : ℕ) → 1 ≤ i → Formed bs k i) where
          pub repeated_first : (p : ℕ) → Holds bs k p Repeated → First bs (fault k p Repeated)
          repeated_first p row = first_here p Repeated row none
            where
              none : (q : ℕ) (d : Cause) → Holds bs k q d → Sooner d q Repeated p → ⊥
              none q Bounds r s = no_bounds q r
              none q Mark r s = no_mark q r
              none q Tasks r s = no_tasks q r
              none q Shape r s = (misshapen q r).1 shaped
              none q Field r s = r.2.3 (formed r.2.0 r.2.1)
              none q Repeated r (inl s) = omega arith
              none q Repeated r (inr s) = let here = r.1 in let there = row.1 in let less = s.1 in omega arith
              none q (Opening x) r s = r

          pub line_clean : ((q : ℕ) → Holds bs k q Repeated → ⊥) → Clean k
          line_clean fresh = clean_more none
            where
              none : (q : ℕ) (d : Cause) → Holds bs k q d → ⊥
              none q Bounds r = no_bounds q r
              none q Mark r = no_mark q r
              none q Tasks r = no_tasks q r
              none q Shape r = (misshapen q r).1 shaped
              none q Field r = r.2.3 (formed r.2.0 r.2.1)
              none q Repeated r = fresh q r
              none q (Opening x) r = r

  -- a line in which no row holds is of its shape, and its fields of their forms
  module _ (k : ℕ) (there : There bs k) (clean : (q : ℕ) (d : Cause) → Holds bs k q d → ⊥) where
    pub shaped_clean : Shaped bs k
    shaped_clean =
        let wrong : (Shaped bs k → ⊥) → ⊥ = λ n. clean (line_place bs k) Shape (inl (there, refl, n)) in
        ⊎_elim (λ e. ⊎_elim (λ f. (e, f)) (λ f. absurd (wrong (λ s. false≢true (sym f ∙ s.1)))) (cases_Bool (passes (forms k) 0 (field_at bs k 0))))
        (λ d. absurd (wrong (λ s. d s.0))) (cases_eq (length (fields (line_at bs k))) (length (forms k)))

    pub formed_clean : (i : ℕ) → 1 ≤ i → Formed bs k i
    formed_clean i some =
        ⊎_elim (λ f. f) (λ f. absurd (clean (field_place bs k i) Field (there, shaped_clean, (i, some, refl, λ e. false≢true (sym f ∙ e)))))
        (cases_Bool (passes (forms k) i (field_at bs k i)))

  -- at most one fault counts
  cause_at : ℕ → Cause
  cause_at zero = Bounds
  cause_at (suc zero) = Mark
  cause_at (suc (suc zero)) = Tasks
  cause_at (suc (suc (suc zero))) = Shape
  cause_at (suc (suc (suc (suc zero)))) = Field
  cause_at (suc (suc (suc (suc (suc n))))) = Repeated

  ranked : (line place : ℕ) (c : Cause) → Holds bs line place c → cause_at (rank c) ≡ c
  unfolding cause_at
  ranked l p Bounds r = refl
  ranked l p Mark r = refl
  ranked l p Tasks r = refl
  ranked l p Shape r = refl
  ranked l p Field r = refl
  ranked l p Repeated r = refl
  ranked l p (Opening x) r = absurd r

  pub one_first : (f g : Fault) → First bs f → First bs g → g ≡ f
  one_first f g a b =
      let line : g.line ≡ f.line = tied f.line g.line (λ h. b.1 f a.0 (inl h)) (λ h. a.1 g b.0 (inl h)) in
      let ranks : rank g.cause ≡ rank f.cause =
      tied (rank f.cause) (rank g.cause) (λ h. b.1 f a.0 (inr (sym line, inl h))) (λ h. a.1 g b.0 (inr (line, inl h))) in
      let place : g.place ≡ f.place =
      tied f.place g.place (λ h. b.1 f a.0 (inr (sym line, inr (sym ranks, h)))) (λ h. a.1 g b.0 (inr (line, inr (ranks, h)))) in
      let cause : g.cause ≡ f.cause = sym (ranked g.line g.place g.cause b.0) ∙ ap cause_at ranks ∙ ranked f.line f.place f.cause a.0 in
      ap (λ l. fault l g.place g.cause) line ∙ ap (λ p. fault f.line p g.cause) place ∙ ap (fault f.line f.place) cause
    where
      tied : (x y : ℕ) → (x < y → ⊥) → (y < x → ⊥) → y ≡ x
      tied x y h k = ⊎_elim (λ l. absurd (h l)) (λ l. ⊎_elim (λ m. absurd (k m)) (λ m. omega arith) (cases_lt y x)) (cases_lt x y)
