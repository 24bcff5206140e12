-- One line read: its fault counts, or it is clean and its values are those of its fields. Assumes nothing.
use Rattle.std.proofs.Common.{◌≡◌, ℕ, zero, suc, ◌+◌, ◌-◌, ◌<◌, ◌≤◌, Bool, true, false, cond, eqb, List, [], ◌∷◌, length, get_or, take, Some, None, Ok, Err, codes, Result, sym, refl, ap, ◌∙◌, arith}
use Rattle.std.proofs.lemmas.Bool.{cond-false, ne_eqb, false≢true}
use Rattle.std.proofs.lemmas.List.{get_or_default}
use Rattle.std.proofs.lemmas.List.Folds.{Any-from_list_any, list_any_at}
use Rattle.std.proofs.lemmas.Slice.Eq.{bytes_eq-Decides}
use Rattle.std.specs.Str.{bytes_eq}
use Rattle.sheet.specs.Faults.{extent, line_at, line_place, field_at, field_place, head_forms, task_forms, forms, passes, There, Formed, Shaped, TaskLine, Holds, First, entry_of}
use Rattle.sheet.specs.Forms.{is_number, is_period, is_name, number, period, value}
use Rattle.sheet.specs.Parts.{fields}
use Rattle.sheet.specs.Reading.{fault, and_then, at_field, head_line, task_line, task_fields, used, new_task, name_of, blank}
use Rattle.sheet.specs.declared.fault.Cause.TheVariants.{Shape, Field, Repeated}
use Rattle.sheet.specs.declared.fault.Fault.{Fault}
use Rattle.sheet.specs.declared.table.Entry.{Entry}
use Rattle.sheet.proofs.Extents.{field_in_sheet}
use Rattle.sheet.proofs.Firsts.{Clean, ToldBy, then_told, shape_first, field_first, repeated_first, line_clean, shaped_clean}

-- ---- texts and names

-- texts are the same if the test says so
pub same_true : (xs ys : List ℕ) → bytes_eq xs ys ≡ true → xs ≡ ys
same_true xs ys e = (bytes_eq-Decides xs ys).0 e

pub same_self : (xs : List ℕ) → bytes_eq xs xs ≡ true
same_self xs = (bytes_eq-Decides xs xs).1 refl

pub used_some : (bs : List ℕ) (es : List Entry) (name : List ℕ) → used bs es name ≡ true → (i : ℕ) × (i < length es) × (name_of bs (get_or es i blank) ≡ name)
used_some bs es name e =
    let found = Any-from_list_any (λ x. bytes_eq (name_of bs x) name) es e in
    (found.0, found.2, ap (name_of bs) (get_or_default es found.0 blank found.1 found.2 ∙ found.3) ∙ same_true (name_of bs found.1) name found.4)

pub used_none : (bs : List ℕ) (es : List Entry) (name : List ℕ) → used bs es name ≡ false → (i : ℕ) → i < length es → name_of bs (get_or es i blank) ≡ name → ⊥
used_none bs es name e i h n =
    false≢true (sym e ∙ list_any_at (λ x. bytes_eq (name_of bs x) name) es i blank h (ap (λ m. bytes_eq m name) n ∙ same_self name))

-- from line 5 on the lines are tasks'
pub task_kind : (k : ℕ) → 5 ≤ k → forms k ≡ task_forms
task_kind k h =
    cond-false (eqb k 2) _ _ (ne_eqb k 2 (λ e. omega arith)) ∙ cond-false (eqb k 3) _ _ (ne_eqb k 3 (λ e. omega arith))
    ∙ cond-false (eqb k 4) _ _ (ne_eqb k 4 (λ e. omega arith))

-- the name of a task is the part of the sheet that it occupies
module _ (bs : List ℕ) (k : ℕ) (task : TaskLine bs k) where
  four_fields : length (fields (line_at bs k)) ≡ 4
  four_fields = task.2.0 ∙ ap length (task_kind k task.1)

  pub name_within : field_place bs k 1 + length (field_at bs k 1) ≤ length bs
  name_within = let h = task.0.0 in let four = four_fields in (field_in_sheet bs k 1 (omega arith) task.0.1 (omega arith)).0

  pub name_occupies : name_of bs (entry_of bs k) ≡ field_at bs k 1
  name_occupies = let h = task.0.0 in let four = four_fields in (field_in_sheet bs k 1 (omega arith) task.0.1 (omega arith)).1

module _ (bs : List ℕ) (n k : ℕ) (after : k ≡ n + 1) (clean : Clean bs n) (there : There bs k) (early : k ≤ 68) where
  -- the line's fields are fs, and their forms F
  module _ (F : List (List ℕ → Bool)) (kind : forms k ≡ F) (p : ℕ) (at : p ≡ line_place bs k) (fs : List (List ℕ)) (cut : fields (line_at bs k) ≡ fs) where
    formed_as : (i : ℕ) → passes (forms k) i (field_at bs k i) ≡ passes F i (get_or fs i [])
    formed_as i = ap (λ G. passes G i (field_at bs k i)) kind ∙ ap (λ gs. passes F i (get_or gs i [])) cut

    place_as : (i : ℕ) → field_place bs k i ≡ p + extent (take i fs)
    place_as i = ap (λ gs. line_place bs k + extent (take i gs)) cut ∙ ap (λ q. q + extent (take i fs)) (sym at)

    miscounted : (length fs ≡ length F → ⊥) → First bs (fault k p Shape)
    miscounted wrong = shape_first bs n k after clean there early (λ s. wrong (sym (ap length cut) ∙ s.0 ∙ ap length kind)) p at

    other_word : passes F 0 (get_or fs 0 []) ≡ false → First bs (fault k p Shape)
    other_word e = shape_first bs n k after clean there early (λ s. false≢true (sym e ∙ sym (formed_as 0) ∙ s.1)) p at

    module _ (long : length fs ≡ length F) (word : passes F 0 (get_or fs 0 []) ≡ true) where
      well_shaped : Shaped bs k
      well_shaped = (ap length cut ∙ long ∙ sym (ap length kind), formed_as 0 ∙ word)

      wrong_field : (i q : ℕ) → 1 ≤ i → q ≡ p + extent (take i fs) → passes F i (get_or fs i []) ≡ false →
          ((j : ℕ) → 1 ≤ j → j < i → passes F j (get_or fs j []) ≡ true) → First bs (fault k q Field)
      wrong_field i q some here e before =
          field_first bs n k after clean there early well_shaped i q some (here ∙ sym (place_as i)) (λ f. false≢true (sym e ∙ sym (formed_as i) ∙ f))
          (λ j a b. formed_as j ∙ before j a b)

  -- ---- a line of the head

  module _ (word : List ℕ) (kind : forms k ≡ head_forms word) (four : k ≤ 4) (p : ℕ) (at : p ≡ line_place bs k) where
    abbrev pub HeadLine : ℕ → Type 0
    HeadLine v = Clean bs k × (v ≡ value (field_at bs k 1))

    pub head_told : (fs : List (List ℕ)) → fields (line_at bs k) ≡ fs → ToldBy bs HeadLine (head_line word k p fs)
    head_told [] cut = miscounted (head_forms word) kind p at [] cut (λ e. omega arith)
    head_told (w ∷ []) cut = miscounted (head_forms word) kind p at (w ∷ []) cut (λ e. omega arith)
    head_told (w ∷ v ∷ f ∷ fs) cut = miscounted (head_forms word) kind p at (w ∷ v ∷ f ∷ fs) cut (λ e. omega arith)
    head_told (w ∷ v ∷ []) cut = worded (bytes_eq w word) refl
      where
        numbered : (b : Bool) → is_number v ≡ b → bytes_eq w word ≡ true → ToldBy bs HeadLine (at_field k (p + length w + 1) (cond b (Some (value v)) None))
        numbered false e s = wrong_field (head_forms word) kind p at (w ∷ v ∷ []) cut refl s 1 (p + length w + 1) (omega arith) (omega arith) e (λ j a b. absurd (omega arith))
        numbered true e s =
            let formed : (i : ℕ) → 1 ≤ i → Formed bs k i = forming e in
            let fresh : (q : ℕ) → Holds bs k q Repeated → ⊥ = λ q r. let five = r.0.1 in omega arith in
            (line_clean bs n k after clean there early (well_shaped (head_forms word) kind p at (w ∷ v ∷ []) cut refl s) formed fresh, ap (λ gs. value (get_or gs 1 [])) (sym cut))
          where
            forming : is_number v ≡ true → (i : ℕ) → 1 ≤ i → Formed bs k i
            forming e zero h = absurd (omega arith)
            forming e (suc zero) h = formed_as (head_forms word) kind p at (w ∷ v ∷ []) cut 1 ∙ e
            forming e (suc (suc i)) h = formed_as (head_forms word) kind p at (w ∷ v ∷ []) cut (suc (suc i))

        worded : (b : Bool) → bytes_eq w word ≡ b → ToldBy bs HeadLine (cond b (at_field k (p + length w + 1) (number v)) (Err (fault k p Shape)))
        worded true s = numbered (is_number v) refl s
        worded false s = other_word (head_forms word) kind p at (w ∷ v ∷ []) cut s

  -- ---- a task's line

  module _ (five : 5 ≤ k) (p : ℕ) (at : p ≡ line_place bs k) where
    -- of its shape and its forms
    abbrev FormedLine : Entry → Type 0
    FormedLine x = Shaped bs k × ((i : ℕ) → 1 ≤ i → Formed bs k i) × (x ≡ entry_of bs k)

    entry_as : (w m r q : List ℕ) → fields (line_at bs k) ≡ w ∷ m ∷ r ∷ q ∷ [] →
        record { place = p + length w + 1; size = length m; rate = value r; period = value q } ≡ entry_of bs k
    entry_as w m r q cut =
        let entry : ℕ → List (List ℕ) → Entry = λ n gs. record { place = n; size = length (get_or gs 1 []); rate = value (get_or gs 2 []); period = value (get_or gs 3 []) } in
        let here : p + length w + 1 ≡ field_place bs k 1 = let place = place_as task_forms (task_kind k five) p at (w ∷ m ∷ r ∷ q ∷ []) cut 1 in omega arith in
        ap (λ n. entry n (w ∷ m ∷ r ∷ q ∷ [])) here ∙ ap (entry (field_place bs k 1)) (sym cut)

    -- four fields
    module _ (w m r q : List ℕ) (cut : fields (line_at bs k) ≡ w ∷ m ∷ r ∷ q ∷ []) where
      abbrev fs : List (List ℕ)
      fs = w ∷ m ∷ r ∷ q ∷ []

      -- the places of the name, the rate and the period
      abbrev x : ℕ
      x = p + length w + 1

      abbrev y : ℕ
      y = p + length w + 1 + length m + 1

      abbrev z : ℕ
      z = p + length w + 1 + length m + 1 + length r + 1

      abbrev made : ℕ → ℕ → Result Entry Fault
      made rate every = Ok (record { place = p + length w + 1; size = length m; rate = rate; period = every })

      form_of : (i : ℕ) → passes (forms k) i (field_at bs k i) ≡ passes task_forms i (get_or fs i [])
      form_of = formed_as task_forms (task_kind k five) p at fs cut

      module _ (s : bytes_eq w (codes "task") ≡ true) where
        wrong : (i place : ℕ) → 1 ≤ i → place ≡ p + extent (take i fs) → passes task_forms i (get_or fs i []) ≡ false →
            ((j : ℕ) → 1 ≤ j → j < i → passes task_forms j (get_or fs j []) ≡ true) → First bs (fault k place Field)
        wrong = wrong_field task_forms (task_kind k five) p at fs cut refl s

        periodic : (b : Bool) → is_period q ≡ b → is_name m ≡ true → is_number r ≡ true →
            ToldBy bs FormedLine (and_then (at_field k z (cond b (Some (value q)) None)) (made (value r)))
        periodic false e named rated = wrong 3 z (omega arith) (omega arith) e before
          where
            before : (j : ℕ) → 1 ≤ j → j < 3 → passes task_forms j (get_or fs j []) ≡ true
            before zero a b = absurd (omega arith)
            before (suc zero) a b = named
            before (suc (suc zero)) a b = rated
            before (suc (suc (suc j))) a b = absurd (omega arith)
        periodic true e named rated = (well_shaped task_forms (task_kind k five) p at fs cut refl s, formed, entry_as w m r q cut)
          where
            formed : (i : ℕ) → 1 ≤ i → Formed bs k i
            formed zero h = absurd (omega arith)
            formed (suc zero) h = form_of 1 ∙ named
            formed (suc (suc zero)) h = form_of 2 ∙ rated
            formed (suc (suc (suc zero))) h = form_of 3 ∙ e
            formed (suc (suc (suc (suc i)))) h = form_of (suc (suc (suc (suc i))))

        rated : (b : Bool) → is_number r ≡ b → is_name m ≡ true →
            ToldBy bs FormedLine (and_then (at_field k y (cond b (Some (value r)) None)) (λ rate. and_then (at_field k z (period q)) (made rate)))
        rated true e named = periodic (is_period q) refl named e
        rated false e named = wrong 2 y (omega arith) (omega arith) e before
          where
            before : (j : ℕ) → 1 ≤ j → j < 2 → passes task_forms j (get_or fs j []) ≡ true
            before zero a b = absurd (omega arith)
            before (suc zero) a b = named
            before (suc (suc j)) a b = absurd (omega arith)

        named : (b : Bool) → is_name m ≡ b →
            ToldBy bs FormedLine (cond b (and_then (at_field k y (number r)) (λ rate. and_then (at_field k z (period q)) (made rate))) (Err (fault k x Field)))
        named true e = rated (is_number r) refl e
        named false e = wrong 1 x (omega arith) (omega arith) e (λ j a b. absurd (omega arith))

      worded : (b : Bool) → bytes_eq w (codes "task") ≡ b → ToldBy bs FormedLine (cond b (task_fields k x m r q) (Err (fault k p Shape)))
      worded true s = named s (is_name m) refl
      worded false s = other_word task_forms (task_kind k five) p at fs cut s

    task_told : (fs : List (List ℕ)) → fields (line_at bs k) ≡ fs → ToldBy bs FormedLine (task_line k p fs)
    task_told [] cut = miscounted task_forms (task_kind k five) p at [] cut (λ e. omega arith)
    task_told (w ∷ []) cut = miscounted task_forms (task_kind k five) p at (w ∷ []) cut (λ e. omega arith)
    task_told (w ∷ m ∷ []) cut = miscounted task_forms (task_kind k five) p at (w ∷ m ∷ []) cut (λ e. omega arith)
    task_told (w ∷ m ∷ r ∷ []) cut = miscounted task_forms (task_kind k five) p at (w ∷ m ∷ r ∷ []) cut (λ e. omega arith)
    task_told (w ∷ m ∷ r ∷ q ∷ []) cut = worded w m r q cut (bytes_eq w (codes "task")) refl
    task_told (w ∷ m ∷ r ∷ q ∷ f ∷ fs) cut = miscounted task_forms (task_kind k five) p at (w ∷ m ∷ r ∷ q ∷ f ∷ fs) cut (λ e. omega arith)

    -- the entries are those of the tasks before this one
    module _ (es : List Entry) (count : length es + 5 ≡ k) (known : (i : ℕ) → i < length es → get_or es i blank ≡ entry_of bs (i + 5)) where
      abbrev pub TaskRead : Entry → Type 0
      TaskRead x = Clean bs k × (x ≡ entry_of bs k)

      earlier : (i : ℕ) → i < length es → TaskLine bs (i + 5)
      earlier i h =
          let high = there.1 in
          let here : There bs (i + 5) = (omega arith, omega arith) in
          (here, omega arith, shaped_clean bs (i + 5) here (λ q d r. clean (fault (i + 5) q d) r (omega arith)))

      name_known : (i : ℕ) → i < length es → name_of bs (get_or es i blank) ≡ field_at bs (i + 5) 1
      name_known i h = ap (name_of bs) (known i h) ∙ name_occupies bs (i + 5) (earlier i h)

      module _ (x : Entry) (a : FormedLine x) where
        this : TaskLine bs k
        this = (there, five, a.0)

        name_this : name_of bs x ≡ field_at bs k 1
        name_this = ap (name_of bs) a.2 ∙ name_occupies bs k this

        fresh : (b : Bool) → used bs es (name_of bs x) ≡ b → ToldBy bs TaskRead (cond b (Err (fault k x.place Repeated)) (Ok x))
        fresh true e =
            let found = used_some bs es (name_of bs x) e in
            let less = found.1 in
            let same_name : field_at bs (found.0 + 5) 1 ≡ field_at bs k 1 = sym (name_known found.0 found.1) ∙ found.2 ∙ name_this in
            repeated_first bs n k after clean there early a.0 a.1 x.place (this, ap (λ y. y.place) a.2, (found.0 + 5, omega arith, earlier found.0 found.1, same_name))
        fresh false e = (line_clean bs n k after clean there early a.0 a.1 unused, a.2)
          where
            unused : (q : ℕ) → Holds bs k q Repeated → ⊥
            unused q r =
                let j : ℕ = r.2.0 in
                let below : r.2.0 < k = r.2.1 in
                let high : 5 ≤ r.2.0 = r.2.2.1 in
                let i : ℕ = j - 5 in
                let back : j - 5 + 5 ≡ j = omega arith in
                used_none bs es (name_of bs x) e i (omega arith)
                (name_known i (omega arith) ∙ ap (λ l. field_at bs l 1) back ∙ r.2.3 ∙ sym name_this)

      pub new_told : (fs : List (List ℕ)) → fields (line_at bs k) ≡ fs → ToldBy bs TaskRead (new_task bs es k p fs)
      new_told fs cut = then_told bs FormedLine TaskRead (task_line k p fs) _ (task_told fs cut) (λ x a. fresh x a (used bs es (name_of bs x)) refl)
