-- A written sheet read line by line. Assumes nothing.
use Rattle.std.proofs.Common.{◌≡◌, ℕ, suc, ◌+◌, ◌-◌, ◌*◌, ◌≤◌, true, false, cond, not, ◌&&◌, ◌||◌, eqb, ltb, leb, List, [], ◌∷◌, ◌++◌, map, length, get_or, take, drop, replicate, Ok, Err, codes, decimal, Result, sym, refl, ap, ◌∙◌, append_assoc, arith, length-append}
use lib.ListN.{length-map}
use Rattle.std.proofs.lemmas.List.{drop-drop, drop_at, take_at, length_push, get_or-append-add, get_or_at, append-nil}
use Rattle.std.proofs.lemmas.Bool.{cond-true, cond-false, and_parts, and_from, or_from, eq-eqb, ne_eqb, le-leb, leb-true}
use Rattle.std.proofs.lemmas.List.Folds.{list_any-append}
use Rattle.std.specs.List.{AllByRecursion, list_all}
use Rattle.std.specs.Str.{bytes_eq}
use Rattle.sheet.specs.Forms.{name_byte, is_name, number, period}
use Rattle.sheet.specs.Parts.{lines, fields}
use Rattle.sheet.specs.Reading.{Seen, fault, and_then, at_field, head_line, head_at, task_line, name_of, used, new_task, tasks_from, all_lines, in_bounds, reading, answer, table_of, blank}
use Rattle.sheet.specs.Written.{Task, head_text, task_text, ended, written_lines, written, Good, Apart, Valid, task_of, Returned}
use Rattle.sheet.specs.declared.fault.Cause.TheVariants.{Shape, Field, Repeated, Tasks}
use Rattle.sheet.specs.declared.fault.Fault.{Fault}
use Rattle.sheet.specs.declared.table.Entry.{Entry}
use Rattle.sheet.specs.declared.table.Head.{Head}
use Rattle.sheet.proofs.Back.{Lacks, cut_off, cut_last, number_back, period_back, decimal_lacks_comma, name_lacks_comma, decimal_lacks_feed, name_lacks_feed, all_join, lines_back, decimal_short}
use Rattle.sheet.proofs.Whole.{content, from_frames, from_unit, from_cores, in_reading}

pub head_back : (bs word : List ℕ) (line p n : ℕ) (ls : List (List ℕ)) → Lacks 44 word → bytes_eq word word ≡ true → n ≤ 65535 →
    head_at bs word line p (head_text word n ∷ ls) ≡ Ok (record { value = n; place = p + length (head_text word n) + 1; left = ls })
head_back bs word line p n ls lacks self small =
    let k : ℕ → Result Seen Fault = λ v. Ok (record { value = v; place = p + length (head_text word n) + 1; left = ls }) in
    let two : fields (head_text word n) ≡ word ∷ decimal n ∷ [] =
    cut_off 44 ([] ∷ []) word (decimal n) lacks ∙ ap (λ r. word ∷ r) (cut_last 44 (decimal n) (decimal_lacks_comma n small)) in
    ap (λ fs. and_then (head_line word line p fs) k) two
    ∙ ap (λ t. and_then t k) (cond-true (bytes_eq word word) (at_field line (p + length word + 1) (number (decimal n))) (Err (fault line p Shape)) self)
    ∙ ap (λ o. and_then (at_field line (p + length word + 1) o) k) (number_back n small)

-- the entry of a task whose line begins at a place
abbrev pub entry : ℕ → Task → Entry
entry p t = record { place = p + 4 + 1; size = length t.name; rate = t.rate; period = t.period }

abbrev pub entries : ℕ → List Task → List Entry
entries p [] = []
entries p (t ∷ ts) = entry p t ∷ entries (p + length (task_text t) + 1) ts

entries_count : (p : ℕ) (ts : List Task) → length (entries p ts) ≡ length ts
entries_count p [] = refl
entries_count p (t ∷ ts) = ap suc (entries_count (p + length (task_text t) + 1) ts)

module _ (t : Task) (g : Good t) where
  letters : list_all name_byte t.name ≡ true
  letters = (and_parts (list_all name_byte t.name) _ g.0).0

  fields_task : fields (task_text t) ≡ codes "task" ∷ t.name ∷ decimal t.rate ∷ decimal t.period ∷ []
  fields_task =
      cut_off 44 ([] ∷ []) (codes "task") (t.name ++ 44 ∷ (decimal t.rate ++ 44 ∷ decimal t.period)) refl
      ∙ ap (λ r. codes "task" ∷ r) (cut_off 44 ([] ∷ []) t.name (decimal t.rate ++ 44 ∷ decimal t.period) (name_lacks_comma t.name letters)
      ∙ ap (λ r. t.name ∷ r) (cut_off 44 ([] ∷ []) (decimal t.rate) (decimal t.period) (decimal_lacks_comma t.rate g.1)
      ∙ ap (λ r. decimal t.rate ∷ r) (cut_last 44 (decimal t.period) (decimal_lacks_comma t.period g.3))))

  pub task_back : (line p : ℕ) → task_line line p (fields (task_text t)) ≡ Ok (entry p t)
  task_back line p =
      let n : ℕ = p + 4 + 1 in
      let k : ℕ → ℕ → Result Entry Fault = λ r q. Ok (record { place = p + 4 + 1; size = length t.name; rate = r; period = q }) in
      let x : ℕ = p + 4 + 1 + length t.name + 1 in
      let y : ℕ = p + 4 + 1 + length t.name + 1 + length (decimal t.rate) + 1 in
      ap (task_line line p) fields_task
      ∙ cond-true (is_name t.name) (and_then (at_field line x (number (decimal t.rate))) (λ r. and_then (at_field line y (period (decimal t.period))) (k r))) (Err (fault line n Field)) g.0
      ∙ ap (λ o. and_then (at_field line x o) (λ r. and_then (at_field line y (period (decimal t.period))) (k r))) (number_back t.rate g.1)
      ∙ ap (λ o. and_then (at_field line y o) (k t.rate)) (period_back t.period g.3 g.2)

pub used_push : (bs : List ℕ) (es : List Entry) (e : Entry) (name : List ℕ) → used bs es name ≡ false → bytes_eq (name_of bs e) name ≡ false → used bs (es ++ e ∷ []) name ≡ false
used_push bs es e name h k = list_any-append (λ x. bytes_eq (name_of bs x) name) es (e ∷ []) ∙ or_from (used bs es name) (bytes_eq (name_of bs e) name || false) h (or_from (bytes_eq (name_of bs e) name) false k refl)

module _ (bs : List ℕ) where
  pub next_line : (p : ℕ) (l rest : List ℕ) → drop p bs ≡ l ++ 10 ∷ rest → drop (p + length l + 1) bs ≡ rest
  next_line p l rest e =
      ap (λ n. drop n bs) (omega arith) ∙ sym (drop-drop (length l + 1) p bs) ∙ ap (drop (length l + 1)) e
      ∙ ap (drop (length l + 1)) (sym (append_assoc l (10 ∷ []) rest)) ∙ drop_at (l ++ 10 ∷ []) rest (length l + 1) (length_push l 10)

  name_back : (p : ℕ) (t : Task) (rest : List ℕ) → drop p bs ≡ task_text t ++ rest → name_of bs (entry p t) ≡ t.name
  name_back p t rest e =
      let after : List ℕ = 44 ∷ (decimal t.rate ++ 44 ∷ decimal t.period) in
      let here : drop (p + 4 + 1) bs ≡ (t.name ++ after) ++ rest = ap (λ n. drop n bs) (omega arith) ∙ sym (drop-drop 5 p bs) ∙ ap (drop 5) e in
      ap (take (length t.name)) (here ∙ append_assoc t.name after rest) ∙ take_at t.name (after ++ rest) (length t.name) refl

  still_fresh : (es : List Entry) (e : Entry) (t : Task) → name_of bs e ≡ t.name → (us : List Task) → AllByRecursion (λ u. used bs es u.name ≡ false) us →
      AllByRecursion (λ u. bytes_eq t.name u.name ≡ false) us → AllByRecursion (λ u. used bs (es ++ e ∷ []) u.name ≡ false) us
  still_fresh es e t n [] h k = tt
  still_fresh es e t n (u ∷ us) h k = (used_push bs es e u.name h.0 (ap (λ m. bytes_eq m u.name) n ∙ k.0), still_fresh es e t n us h.1 k.1)

  pub tasks_back : (es : List Entry) (ts : List Task) (line p : ℕ) → drop p bs ≡ ended (map task_text ts) → AllByRecursion Good ts → Apart ts →
      AllByRecursion (λ u. used bs es u.name ≡ false) ts → length es + length ts ≤ 64 → 1 ≤ length es + length ts → tasks_from bs es line p (map task_text ts) ≡ Ok (es ++ entries p ts)
  tasks_back es [] line p e good apart fresh few some =
      cond-false (eqb (length es) 0) (Err (fault 5 (length bs) Tasks)) (Ok es) (ne_eqb (length es) 0 (λ z. omega arith)) ∙ ap Ok (sym (append-nil es))
  tasks_back es (t ∷ ts) line p e good apart fresh few some =
      let here : name_of bs (entry p t) ≡ t.name = name_back p t (10 ∷ ended (map task_text ts)) e in
      let free : used bs es (name_of bs (entry p t)) ≡ false = ap (used bs es) here ∙ fresh.0 in
      let j : Entry → Result Entry Fault = λ x. cond (used bs es (name_of bs x)) (Err (fault line x.place Repeated)) (Ok x) in
      let k : Entry → Result (List Entry) Fault = λ x. tasks_from bs (es ++ x ∷ []) (line + 1) (p + length (task_text t) + 1) (map task_text ts) in
      let new : new_task bs es line p (fields (task_text t)) ≡ Ok (entry p t) =
      ap (λ r. and_then r j) (task_back t good.0 line p) ∙ cond-false (used bs es (name_of bs (entry p t))) (Err (fault line (p + 4 + 1) Repeated)) (Ok (entry p t)) free in
      let long : length (es ++ entry p t ∷ []) ≡ length es + 1 = length_push es (entry p t) in
      cond-false (eqb (length es) 64) (Err (fault line p Tasks)) (and_then (new_task bs es line p (fields (task_text t))) k) (ne_eqb (length es) 64 (λ z. omega arith))
      ∙ ap (λ r. and_then r k) new
      ∙ tasks_back (es ++ entry p t ∷ []) ts (line + 1) (p + length (task_text t) + 1) (next_line p (task_text t) (ended (map task_text ts)) e) good.1 apart.1
      (still_fresh es (entry p t) t here ts fresh.1 apart.0) (omega arith) (omega arith)
      ∙ ap Ok (append_assoc es (entry p t ∷ []) (entries (p + length (task_text t) + 1) ts))

  returned : (ts : List Task) (p : ℕ) → drop p bs ≡ ended (map task_text ts) → map (task_of bs) (entries p ts) ≡ ts
  returned [] p e = refl
  returned (t ∷ ts) p e =
      let f : List ℕ → Task = λ n. record { name = n; rate = t.rate; period = t.period } in
      ap (λ n. f n ∷ map (task_of bs) (entries (p + length (task_text t) + 1) ts)) (name_back p t (10 ∷ ended (map task_text ts)) e)
      ∙ ap (λ r. t ∷ r) (returned ts (p + length (task_text t) + 1) (next_line p (task_text t) (ended (map task_text ts)) e))

some_ended : (l : List ℕ) (ls : List (List ℕ)) → 1 ≤ length (ended (l ∷ ls))
some_ended l ls = let long = length-append l (10 ∷ ended ls) in omega arith

pub last_feed : (l : List ℕ) (ls : List (List ℕ)) → get_or (ended (l ∷ ls)) (length (ended (l ∷ ls)) - 1) 0 ≡ 10
last_feed l [] =
    let long = length-append l (10 ∷ []) in
    get_or_at l 10 [] 0 (length (l ++ 10 ∷ []) - 1) (omega arith)
last_feed l (m ∷ ms) =
    let rest : List ℕ = ended (m ∷ ms) in
    let some : 1 ≤ length (ended (m ∷ ms)) = some_ended m ms in
    let long = length-append l (10 ∷ ended (m ∷ ms)) in
    ap (λ n. get_or (l ++ 10 ∷ ended (m ∷ ms)) n 0) (omega arith) ∙ get_or-append-add l (10 ∷ ended (m ∷ ms)) (suc (length (ended (m ∷ ms)) - 1)) 0 ∙ last_feed m ms

pub fresh_first : (bs : List ℕ) (ts : List Task) → AllByRecursion (λ u. used bs [] u.name ≡ false) ts
fresh_first bs [] = tt
fresh_first bs (t ∷ ts) = (refl, fresh_first bs ts)

pub lacking : (ts : List Task) → AllByRecursion Good ts → AllByRecursion (Lacks 10) (map task_text ts)
lacking [] g = tt
lacking (t ∷ ts) g = (
  all_join (λ b. not (eqb b 10)) t.name (44 ∷ (decimal t.rate ++ 44 ∷ decimal t.period)) (name_lacks_feed t.name (letters t g.0))
      (all_join (λ b. not (eqb b 10)) (decimal t.rate) (44 ∷ decimal t.period) (decimal_lacks_feed t.rate g.0.1) (decimal_lacks_feed t.period g.0.3)),
  lacking ts g.1,
)

task_short : (t : Task) → Good t → length (task_text t) ≤ 29
task_short t g =
    let name : length t.name ≤ 12 = leb-true _ _ (and_parts (ltb 0 (length t.name)) (leb (length t.name) 12) (and_parts (list_all name_byte t.name) (ltb 0 (length t.name) && leb (length t.name) 12) g.0).1).1 in
    let rate = decimal_short t.rate g.1 in
    let period = decimal_short t.period g.3 in
    let one = length-append t.name (44 ∷ (decimal t.rate ++ 44 ∷ decimal t.period)) in
    let two = length-append (decimal t.rate) (44 ∷ decimal t.period) in
    omega arith

tasks_short : (ts : List Task) → AllByRecursion Good ts → length (ended (map task_text ts)) ≤ 30 * length ts
tasks_short [] g = omega arith
tasks_short (t ∷ ts) g =
    let first = task_short t g.0 in
    let rest = tasks_short ts g.1 in
    let long = length-append (task_text t) (10 ∷ ended (map task_text ts)) in
    omega arith

line_long : (l : List ℕ) (ls : List (List ℕ)) → length (ended (l ∷ ls)) ≡ length l + suc (length (ended ls))
line_long l ls = length-append l (10 ∷ ended ls)

-- a sheet of 64 tasks fits
written_short : (h : Head) (ts : List Task) → Valid h ts → length (written h ts) ≤ 8192
written_short h ts v =
    let cores = decimal_short h.cores v.cores in
    let unit = decimal_short h.unit v.unit in
    let frames = decimal_short h.frames v.frames in
    let tasks = tasks_short ts v.good in
    let l2 = line_long (head_text (codes "cores") h.cores) (head_text (codes "unit") h.unit ∷ head_text (codes "frames") h.frames ∷ map task_text ts) in
    let l3 = line_long (head_text (codes "unit") h.unit) (head_text (codes "frames") h.frames ∷ map task_text ts) in
    let l4 = line_long (head_text (codes "frames") h.frames) (map task_text ts) in
    omega arith

reads_back : (h : Head) (ts : List Task) → Valid h ts →
    (es : List Entry) × (reading (written h ts) ≡ Ok (record { head = h; entries = es })) × (map (task_of (written h ts)) es ≡ ts)
reads_back h ts v =
    let bs : List ℕ = written h ts in
    let l2 : List ℕ = head_text (codes "cores") h.cores in
    let l3 : List ℕ = head_text (codes "unit") h.unit in
    let l4 : List ℕ = head_text (codes "frames") h.frames in
    let ls : List (List ℕ) = map task_text ts in
    let p3 : ℕ = 6 + length l2 + 1 in
    let p4 : ℕ = 6 + length l2 + 1 + length l3 + 1 in
    let p5 : ℕ = 6 + length l2 + 1 + length l3 + 1 + length l4 + 1 in
    let d3 : drop p3 bs ≡ ended (l3 ∷ l4 ∷ ls) = next_line bs 6 l2 (ended (l3 ∷ l4 ∷ ls)) refl in
    let d4 : drop p4 bs ≡ ended (l4 ∷ ls) = next_line bs p3 l3 (ended (l4 ∷ ls)) d3 in
    let d5 : drop p5 bs ≡ ended ls = next_line bs p4 l4 (ended ls) d4 in
    let c : Seen = record { value = h.cores; place = p3; left = l3 ∷ l4 ∷ ls } in
    let u : Seen = record { value = h.unit; place = p4; left = l4 ∷ ls } in
    let f : Seen = record { value = h.frames; place = p5; left = ls } in
    let lined : lines bs ≡ written_lines h ts =
    lines_back (written_lines h ts) (refl, (decimal_lacks_feed h.cores v.cores, (decimal_lacks_feed h.unit v.unit, (decimal_lacks_feed h.frames v.frames, lacking ts v.good)))) in
    let fit : in_bounds bs ≡ true =
    and_from _ _ (le-leb 1 (length bs) (some_ended (codes "BLS,1") (l2 ∷ l3 ∷ l4 ∷ ls))) (and_from _ _ (le-leb (length bs) 8192 (written_short h ts v)) (eq-eqb _ _ (last_feed (codes "BLS,1") (l2 ∷ l3 ∷ l4 ∷ ls)))) in (
      entries p5 ts,
      in_reading bs fit ∙ ap (all_lines bs) lined
          ∙ ap (λ r. and_then r (from_cores bs)) (head_back bs (codes "cores") 2 6 h.cores (l3 ∷ l4 ∷ ls) refl refl v.cores)
          ∙ ap (λ r. and_then r (from_unit bs c)) (head_back bs (codes "unit") 3 p3 h.unit (l4 ∷ ls) refl refl v.unit)
          ∙ ap (λ r. and_then r (from_frames bs c u)) (head_back bs (codes "frames") 4 p4 h.frames ls refl refl v.frames)
          ∙ ap (λ r. and_then r (content bs c u f)) (tasks_back bs [] ts 5 p5 d5 v.good v.apart (fresh_first bs ts) (omega arith) (omega arith))
          ∙ ap (λ n. Ok (record { head = record { cores = h.cores; unit = h.unit; frames = h.frames; tasks = n }; entries = entries p5 ts })) (entries_count p5 ts ∙ sym v.count),
      returned bs ts p5 d5,
    )

-- the answer and the table of such a sheet
pub returned_as : (bs : List ℕ) (table : List Entry) (r : Result Head Fault) → r ≡ answer (reading bs) → table ≡ table_of (reading bs) → Returned bs table r
returned_as bs table r a e h ts v is =
    let back = reads_back h ts v in
    let es : List Entry = back.0 in
    let read : reading bs ≡ Ok (record { head = h; entries = back.0 }) = ap reading is ∙ back.1 in
    let tasks : map (task_of bs) back.0 ≡ ts = ap (λ b. map (task_of b) back.0) is ∙ back.2 in
    let count : length back.0 ≡ length ts = sym (length-map back.0 (task_of bs)) ∙ ap length tasks in
    let front : take (length ts) table ≡ back.0 =
    ap (take (length ts)) (e ∙ ap table_of read) ∙ take_at back.0 (replicate (64 - length back.0) blank) (length ts) count in
    (a ∙ ap answer read, ap (map (task_of bs)) front ∙ tasks)
