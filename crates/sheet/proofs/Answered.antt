-- Reading tells the fault that counts, or what the sheet holds. Assumes nothing.
use Rattle.std.proofs.Common.{◌≡◌, ℕ, ◌+◌, ◌-◌, ◌<◌, ◌≤◌, Bool, true, false, cond, not, ◌&&◌, eqb, ltb, leb, ◌⊎◌, List, [], ◌∷◌, ◌++◌, length, get_or, take, drop, replicate, Ok, Err, codes, Result, sym, refl, ap, ◌∙◌, subst, inl, inr, ⊎_elim, arith}
use Rattle.std.proofs.lemmas.List.{length_push, get_or_push, get_or_append_left, drop_at}
use Rattle.std.proofs.lemmas.Bool.{cases_lt, and_parts, and_cases, leb-true, leb-false, eqb-true, eqb-false, ltb-true, not-true, false≢true}
use Rattle.std.specs.List.{list_all}
use Rattle.std.specs.Str.{bytes_eq}
use Rattle.sheet.specs.Faults.{extent, line_at, line_place, field_at, head_forms, task_forms, forms, passes, There, TaskLine, Holds, Applies, First, Sound, Sooner, Before, head_of, entry_of, TaskEntry, Taken, Told}
use Rattle.sheet.specs.Forms.{written_well, is_number, is_period, is_name, name_byte, value}
use Rattle.sheet.specs.Parts.{lines, fields}
use Rattle.sheet.specs.Reading.{Seen, Content, fault, and_then, head_line, head_at, new_task, tasks_from, after_mark, all_lines, in_bounds, reading, answer, table_of, blank, name_of}
use Rattle.sheet.specs.declared.fault.Cause.{Cause}
use Rattle.sheet.specs.declared.fault.Cause.TheVariants.{Bounds, Mark, Shape, Field, Repeated, Tasks, Opening}
use Rattle.sheet.specs.declared.fault.Fault.{Fault}
use Rattle.sheet.specs.declared.table.Entry.{Entry}
use Rattle.sheet.specs.declared.table.Head.{Head}
use Rattle.sheet.proofs.Extents.{extent_more, drop_first, drop_none}
use Rattle.sheet.proofs.Firsts.{Clean, ToldBy, then_told, first_here, clean_more, missing_first, tasks_first, shaped_clean, formed_clean, one_first}
use Rattle.sheet.proofs.Lined.{HeadLine, head_told, TaskRead, new_told, task_kind, name_within, name_occupies, same_true, same_self}

module _ (bs : List ℕ) where
  -- ---- the next line

  -- after n lines these are left, and they begin at p
  module _ (n k p : ℕ) (after : k ≡ n + 1) (at : p ≡ extent (take n (lines bs))) (l : List ℕ) (ls : List (List ℕ)) (left : l ∷ ls ≡ drop n (lines bs)) where
    abbrev parted : (n < length (lines bs)) × (get_or (lines bs) n [] ≡ l) × (ls ≡ drop (n + 1) (lines bs))
    parted = drop_first (lines bs) n [] l ls left

    here_there : 2 ≤ k → There bs k
    here_there two = let h = parted.0 in (two, omega arith)

    here_line : line_at bs k ≡ l
    here_line = let back : k - 1 ≡ n = omega arith in ap (λ m. get_or (lines bs) m []) back ∙ parted.1

    here_place : p ≡ line_place bs k
    here_place = let back : n ≡ k - 1 = omega arith in at ∙ ap (λ m. extent (take m (lines bs))) back

    next_left : ls ≡ drop k (lines bs)
    next_left = parted.2 ∙ ap (λ m. drop m (lines bs)) (sym after)

    next_place : p + length l + 1 ≡ extent (take k (lines bs))
    next_place =
        ap (λ q. q + length l + 1) at ∙ ap (λ m. extent (take n (lines bs)) + length m + 1) (sym parted.1)
        ∙ sym (extent_more (lines bs) n parted.0) ∙ ap (λ m. extent (take m (lines bs))) (sym after)

  -- ---- the head

  -- line k is read, and the lines after it are left
  abbrev HeadRead : ℕ → Seen → Type 0
  HeadRead k s = Clean bs k × (s.value ≡ value (field_at bs k 1)) × (s.place ≡ extent (take k (lines bs))) × (s.left ≡ drop k (lines bs)) × (k ≤ length (lines bs))

  head_at_told : (n k : ℕ) → k ≡ n + 1 → 2 ≤ k → k ≤ 4 → (word : List ℕ) → forms k ≡ head_forms word → Clean bs n →
      (p : ℕ) (left : List (List ℕ)) → p ≡ extent (take n (lines bs)) → left ≡ drop n (lines bs) → ToldBy bs (HeadRead k) (head_at bs word k p left)
  head_at_told n k after two four word kind clean p [] at left =
      let none = drop_none (lines bs) n left in
      missing_first bs n k after clean two four (omega arith)
  head_at_told n k after two four word kind clean p (l ∷ ls) at left =
      let there : There bs k = here_there n k p after at l ls left two in
      let place : p ≡ line_place bs k = here_place n k p after at l ls left in
      then_told bs (HeadLine bs n k after clean there (omega arith) word kind four p place) (HeadRead k) (head_line word k p (fields l)) _
      (head_told bs n k after clean there (omega arith) word kind four p place (fields l) (ap fields (here_line n k p after at l ls left)))
      (λ v a. (a.0, a.1, next_place n k p after at l ls left, next_left n k p after at l ls left, there.1))

  -- ---- the tasks

  abbrev Known : List Entry → Type 0
  Known es = (i : ℕ) → i < length es → get_or es i blank ≡ entry_of bs (i + 5)

  known_more : (es : List Entry) (e : Entry) (k : ℕ) → length es + 5 ≡ k → Known es → e ≡ entry_of bs k → Known (es ++ e ∷ [])
  known_more es e k count known new i h =
      let long = length_push es e in
      ⊎_elim (λ l. get_or_append_left es (e ∷ []) blank i l ∙ known i l)
      (λ g. let last : length es ≡ i = omega arith in let line : k ≡ i + 5 = omega arith in get_or_push es e blank i last ∙ new ∙ ap (entry_of bs) line) (cases_lt i (length es))

  abbrev TasksRead : List Entry → Type 0
  TasksRead es = Sound bs × (length es + 4 ≡ length (lines bs)) × (1 ≤ length es) × (length es ≤ 64) × Known es

  -- no line is left
  sound_end : (n : ℕ) → 5 ≤ n → n ≤ 68 → length (lines bs) ≤ n → Clean bs n → Sound bs
  sound_end n five few short clean f a = ⊎_elim (λ h. past f.line f.place f.cause a h) (λ h. clean f a h) (cases_lt n f.line)
    where
      past : (k q : ℕ) (d : Cause) → Holds bs k q d → n < k → ⊥
      past k q Bounds r h = let e = r.0 in omega arith
      past k q Mark r h = let e = r.0 in omega arith
      past k q Shape (inl r) h = let e = r.0.1 in omega arith
      past k q Shape (inr r) h = let e = r.1 in omega arith
      past k q Field r h = let e = r.0.1 in omega arith
      past k q Repeated r h = let e = r.0.0.1 in omega arith
      past k q Tasks (inl r) h = let e = r.0 in let l = r.1.1 in omega arith
      past k q Tasks (inr r) h = let e = r.0 in omega arith
      past k q (Opening x) r h = r

  -- one line of a task, after which the others are told
  module _ (n k p : ℕ) (after : k ≡ n + 1) (at : p ≡ extent (take n (lines bs))) (l : List ℕ) (ls : List (List ℕ)) (left : l ∷ ls ≡ drop n (lines bs))
      (clean : Clean bs n) (es : List Entry) (count : length es + 4 ≡ n) (few : length es ≤ 64) (known : Known es) where
    rest : Entry → Result (List Entry) Fault
    rest e = tasks_from bs (es ++ e ∷ []) (k + 1) (p + length l + 1) ls

    there : There bs k
    there = here_there n k p after at l ls left (omega arith)

    place : p ≡ line_place bs k
    place = here_place n k p after at l ls left

    task_step : ((e : Entry) → Clean bs k → e ≡ entry_of bs k → length es < 64 → ToldBy bs TasksRead (rest e)) →
        (b : Bool) → eqb (length es) 64 ≡ b → ToldBy bs TasksRead (cond b (Err (fault k p Tasks)) (and_then (new_task bs es k p (fields l)) rest))
    task_step told true e =
        let full = eqb-true (length es) 64 e in
        let last : k ≡ 69 = omega arith in
        tasks_first bs n k after clean p (inl (last, subst (There bs) last there, place ∙ ap (line_place bs) last))
    task_step told false e =
        let room = eqb-false (length es) 64 e in
        let five : 5 ≤ k = omega arith in
        let early : k ≤ 68 = omega arith in
        let before : length es + 5 ≡ k = omega arith in
        then_told bs (TaskRead bs n k after clean there early five p place es before known) TasksRead (new_task bs es k p (fields l)) rest
        (new_told bs n k after clean there early five p place es before known (fields l) (ap fields (here_line n k p after at l ls left)))
        (λ x a. told x a.0 a.1 (omega arith))

  tasks_told : (left : List (List ℕ)) (n k p : ℕ) → k ≡ n + 1 → p ≡ extent (take n (lines bs)) → left ≡ drop n (lines bs) → Clean bs n → n ≤ length (lines bs) →
      (es : List Entry) → length es + 4 ≡ n → length es ≤ 64 → Known es → ToldBy bs TasksRead (tasks_from bs es k p left)
  unfolding rest
  tasks_told [] n k p after at left clean seen es count few known = empty (eqb (length es) 0) refl
    where
      empty : (b : Bool) → eqb (length es) 0 ≡ b → ToldBy bs TasksRead (cond b (Err (fault 5 (length bs) Tasks)) (Ok es))
      empty true e =
          let none = eqb-true (length es) 0 e in
          let short = drop_none (lines bs) n left in
          tasks_first bs n 5 (omega arith) clean (length bs) (inr (refl, omega arith, refl))
      empty false e =
          let some = eqb-false (length es) 0 e in
          let short = drop_none (lines bs) n left in
          (sound_end n (omega arith) (omega arith) short clean, omega arith, omega arith, few, known)
  tasks_told (l ∷ ls) n k p after at left clean seen es count few known =
      task_step n k p after at l ls left clean es count few known
      (λ e clear new room.
      let long = length_push es e in
      let known_now = there n k p after at l ls left clean es count few known in
      tasks_told ls k (k + 1) (p + length l + 1) refl (next_place n k p after at l ls left) (next_left n k p after at l ls left) clear known_now.1
      (es ++ e ∷ []) (omega arith) (omega arith) (known_more es e k (omega arith) known new))
      (eqb (length es) 64) refl

  -- ---- the first line, and the whole

  module _ (fit : in_bounds bs ≡ true) where
    in_size : (1 ≤ length bs) × (length bs ≤ 8192) × (get_or bs (length bs - 1) 0 ≡ 10)
    in_size =
        let both = and_parts (leb 1 (length bs)) (leb (length bs) 8192 && eqb (get_or bs (length bs - 1) 0) 10) fit in
        let more = and_parts (leb (length bs) 8192) (eqb (get_or bs (length bs - 1) 0) 10) both.1 in
        (leb-true _ _ both.0, leb-true _ _ more.0, eqb-true _ _ more.1)

    clean_bounds : Clean bs 0
    clean_bounds f a h = low f.line f.place f.cause a h
      where
        low : (k q : ℕ) (d : Cause) → Holds bs k q d → k ≤ 0 → ⊥
        low k q Bounds (e, o, inl r) h = let s = in_size.0 in omega arith
        low k q Bounds (e, o, inr (inl r)) h = let s = in_size.1 in omega arith
        low k q Bounds (e, o, inr (inr r)) h = r in_size.2
        low k q Mark r h = let e = r.0 in omega arith
        low k q Shape (inl r) h = let e = r.0.0 in omega arith
        low k q Shape (inr r) h = let e = r.0 in omega arith
        low k q Field r h = let e = r.0.0 in omega arith
        low k q Repeated r h = let e = r.0.0.0 in omega arith
        low k q Tasks (inl r) h = let e = r.0 in omega arith
        low k q Tasks (inr r) h = let e = r.0 in omega arith
        low k q (Opening x) r h = r

    mark_first : (line_at bs 1 ≡ codes "BLS,1" → ⊥) → First bs (fault 1 0 Mark)
    mark_first wrong = first_here bs 0 1 refl clean_bounds 0 Mark (refl, refl, wrong) none
      where
        none : (q : ℕ) (d : Cause) → Holds bs 1 q d → Sooner d q Mark 0 → ⊥
        none q d r (inr s) = let less = s.1 in omega arith
        none q Bounds r (inl s) = let e = r.0 in omega arith
        none q Mark r (inl s) = omega arith
        none q Tasks r (inl s) = omega arith
        none q Shape r (inl s) = omega arith
        none q Field r (inl s) = omega arith
        none q Repeated r (inl s) = omega arith
        none q (Opening x) r (inl s) = r

    clean_mark : line_at bs 1 ≡ codes "BLS,1" → Clean bs 1
    clean_mark right = clean_more bs 0 1 refl clean_bounds none
      where
        none : (q : ℕ) (d : Cause) → Holds bs 1 q d → ⊥
        none q Bounds r = let e = r.0 in omega arith
        none q Mark r = r.2 right
        none q Shape (inl r) = let e = r.0.0 in omega arith
        none q Shape (inr r) = let e = r.0 in omega arith
        none q Field r = let e = r.0.0 in omega arith
        none q Repeated r = let e = r.0.0.0 in omega arith
        none q Tasks (inl r) = let e = r.0 in omega arith
        none q Tasks (inr r) = let e = r.0 in omega arith
        none q (Opening x) r = r

  bounds_first : in_bounds bs ≡ false → First bs (fault 0 0 Bounds)
  bounds_first e = ((refl, refl, out), none)
    where
      out : (length bs ≡ 0) ⊎ (8192 < length bs) ⊎ (get_or bs (length bs - 1) 0 ≡ 10 → ⊥)
      out =
          ⊎_elim (λ h. inl (let none = leb-false 1 (length bs) h in omega arith))
          (λ h. ⊎_elim (λ long. inr (inl (leb-false (length bs) 8192 long))) (λ last. inr (inr (eqb-false (get_or bs (length bs - 1) 0) 10 last)))
          (and_cases (leb (length bs) 8192) (eqb (get_or bs (length bs - 1) 0) 10) h))
          (and_cases (leb 1 (length bs)) (leb (length bs) 8192 && eqb (get_or bs (length bs - 1) 0) 10) e)

      none : (g : Fault) → Applies bs g → Before g (fault 0 0 Bounds) → ⊥
      none g a (inl h) = omega arith
      none g a (inr (same, inl h)) = omega arith
      none g a (inr (same, inr h)) = let less = h.1 in omega arith

  -- what is known of a sheet that reads
  abbrev Done : Content → Type 0
  Done c = (c.head ≡ head_of bs) × (c.head.tasks ≡ length c.entries) × TasksRead c.entries

  after_mark_told : Clean bs 1 → (p : ℕ) (left : List (List ℕ)) → p ≡ extent (take 1 (lines bs)) → left ≡ drop 1 (lines bs) → ToldBy bs Done (after_mark bs p left)
  after_mark_told clean p left at is =
      then_told bs (HeadRead 2) Done _ _ (head_at_told 1 2 refl (omega arith) (omega arith) (codes "cores") refl clean p left at is) (λ c a.
      then_told bs (HeadRead 3) Done _ _ (head_at_told 2 3 refl (omega arith) (omega arith) (codes "unit") refl a.0 c.place c.left a.2 a.3) (λ u b.
      then_told bs (HeadRead 4) Done _ _ (head_at_told 3 4 refl (omega arith) (omega arith) (codes "frames") refl b.0 u.place u.left b.2 b.3) (λ f d.
      then_told bs TasksRead Done _ _ (tasks_told f.left 4 5 f.place refl d.2 d.3 d.0 d.4 [] refl (omega arith) (λ i h. absurd (omega arith))) (λ es t.
      let count : length es ≡ length (lines bs) - 4 = let all = t.1 in omega arith in
      let head : ℕ → ℕ → ℕ → ℕ → Head = λ x y z n. record { cores = x; unit = y; frames = z; tasks = n } in (
        ap (λ x. head x u.value f.value (length es)) a.1 ∙ ap (λ y. head (value (field_at bs 2 1)) y f.value (length es)) b.1
            ∙ ap (λ z. head (value (field_at bs 2 1)) (value (field_at bs 3 1)) z (length es)) d.1
            ∙ ap (head (value (field_at bs 2 1)) (value (field_at bs 3 1)) (value (field_at bs 4 1))) count,
        refl,
        t,
      )))))

  all_lines_told : in_bounds bs ≡ true → (left : List (List ℕ)) → left ≡ lines bs → ToldBy bs Done (all_lines bs left)
  all_lines_told fit [] is = mark_first fit (λ e. let none : [] ≡ codes "BLS,1" = ap (λ ls. get_or ls 0 []) is ∙ e in let short = ap length none in omega arith)
  all_lines_told fit (l ∷ ls) is = marked (bytes_eq l (codes "BLS,1")) refl
    where
      line : l ≡ line_at bs 1
      line = ap (λ m. get_or m 0 []) is

      marked : (b : Bool) → bytes_eq l (codes "BLS,1") ≡ b → ToldBy bs Done (cond b (after_mark bs (length l + 1) ls) (Err (fault 1 0 Mark)))
      marked true e =
          after_mark_told (clean_mark fit (sym line ∙ same_true l (codes "BLS,1") e)) (length l + 1) ls
          (let long : length l + 1 ≡ extent (take 1 (l ∷ ls)) = omega arith in long ∙ ap (λ m. extent (take 1 m)) is) (ap (drop 1) is)
      marked false e = mark_first fit (λ right. false≢true (sym e ∙ ap (λ m. bytes_eq m (codes "BLS,1")) (line ∙ right) ∙ same_self (codes "BLS,1")))

  reading_told : ToldBy bs Done (reading bs)
  reading_told = fits (in_bounds bs) refl
    where
      fits : (b : Bool) → in_bounds bs ≡ b → ToldBy bs Done (cond b (all_lines bs (lines bs)) (Err (fault 0 0 Bounds)))
      fits true e = all_lines_told e (lines bs) refl
      fits false e = bounds_first e

  -- ---- what a sound sheet's entries are

  module _ (sound : Sound bs) (i : ℕ) (known : i + 5 ≤ length (lines bs)) where
    there_task : There bs (i + 5)
    there_task = (omega arith, known)

    no_row : (q : ℕ) (d : Cause) → Holds bs (i + 5) q d → ⊥
    no_row q d r = sound (fault (i + 5) q d) r

    task_here : TaskLine bs (i + 5)
    task_here = (there_task, omega arith, shaped_clean bs (i + 5) there_task no_row)

    passed : (j : ℕ) → 1 ≤ j → passes task_forms j (field_at bs (i + 5) j) ≡ true
    passed j some = ap (λ G. passes G j (field_at bs (i + 5) j)) (sym (task_kind (i + 5) (omega arith))) ∙ formed_clean bs (i + 5) there_task no_row j some

    entry_good : TaskEntry bs (entry_of bs (i + 5))
    entry_good =
        let name : List ℕ = field_at bs (i + 5) 1 in
        let rate : List ℕ = field_at bs (i + 5) 2 in
        let every : List ℕ = field_at bs (i + 5) 3 in
        let a : is_name (field_at bs (i + 5) 1) ≡ true = passed 1 (omega arith) in
        let b : is_number (field_at bs (i + 5) 2) ≡ true = passed 2 (omega arith) in
        let c : is_period (field_at bs (i + 5) 3) ≡ true = passed 3 (omega arith) in
        let sizes = and_parts (ltb 0 (length name)) (leb (length name) 12) (and_parts (list_all name_byte name) (ltb 0 (length name) && leb (length name) 12) a).1 in
        let both = and_parts (is_number every) (not (eqb (value every) 0)) c in
        let some = eqb-false (value every) 0 (not-true (eqb (value every) 0) both.1) in
        record {
          within = name_within bs (i + 5) task_here;
          named = ap is_name (name_occupies bs (i + 5) task_here) ∙ a;
          some = let s = ltb-true 0 (length name) sizes.0 in omega arith;
          short = leb-true (length name) 12 sizes.1;
          rated = leb-true (value rate) 65535 (and_parts (written_well rate) (leb (value rate) 65535) b).1;
          periodic = omega arith;
          small = leb-true (value every) 65535 (and_parts (written_well every) (leb (value every) 65535) both.0).1;
        }

  taken : (c : Content) → Done c → Taken bs (table_of (Ok c)) c.head
  taken c d =
      let es : List Entry = c.entries in
      let count : c.head.tasks ≡ length c.entries = d.1 in
      let all : length c.entries + 4 ≡ length (lines bs) = d.2.1 in
      let here : (i : ℕ) → i < c.head.tasks → get_or (table_of (Ok c)) i blank ≡ entry_of bs (i + 5) =
      λ i h. get_or_append_left es (replicate (64 - length es) blank) blank i (omega arith) ∙ d.2.4 i (omega arith) in
      record {
        sound = d.2.0;
        head = d.0;
        some = let s = d.2.2 in omega arith;
        few = let s = d.2.3 in omega arith;
        tasks = here;
        rest = drop_at es (replicate (64 - length es) blank) c.head.tasks (sym count) ∙ ap (λ n. replicate (64 - n) blank) (sym count);
        names = λ i h. ap (name_of bs) (here i h) ∙ name_occupies bs (i + 5) (task_here d.2.0 i (omega arith));
        entries = λ i h. subst (TaskEntry bs) (sym (here i h)) (entry_good d.2.0 i (omega arith));
      }

  told_from : (r : Result Content Fault) → ToldBy bs Done r → Told bs (table_of r) (answer r)
  told_from (Ok c) d = taken c d
  told_from (Err f) a = record { first = a; only = λ g b. one_first bs f g a b; blank = refl }

  pub told : (table : List Entry) (r : Result Head Fault) → r ≡ answer (reading bs) → table ≡ table_of (reading bs) → Told bs table r
  told table r a e =
      subst (λ t. Told bs t r) (sym e) (subst (Told bs (table_of (reading bs))) (sym a) (told_from (reading bs) reading_told))
