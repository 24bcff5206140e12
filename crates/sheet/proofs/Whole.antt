-- The whole sheet: the mark, the head and the tasks in turn. Assumes nothing.
use Rattle.std.proofs.Common.{◌≡◌, ℕ, ◌-◌, true, List, [], ◌++◌, length, drop, replicate, Ok, Err, codes, Result, sym, ap, ◌∙◌}
use Rattle.std.proofs.lemmas.Bool.{cond-true}
use Rattle.sheet.specs.Parts.{lines}
use Rattle.sheet.specs.Reading.{Seen, Content, and_then, head_at, tasks_from, after_mark, all_lines, in_bounds, reading, answer, table_of, blank}
use Rattle.sheet.specs.declared.fault.Fault.{Fault}
use Rattle.sheet.specs.declared.table.Entry.{Entry}
use Rattle.sheet.specs.declared.table.Head.{Head}

module _ (bs : List ℕ) where
  abbrev pub content : Seen → Seen → Seen → List Entry → Result Content Fault
  content c u f es = Ok (record { head = record { cores = c.value; unit = u.value; frames = f.value; tasks = length es }; entries = es })

  abbrev pub from_frames : Seen → Seen → Seen → Result Content Fault
  from_frames c u f = and_then (tasks_from bs [] 5 f.place f.left) (content c u f)

  abbrev pub from_unit : Seen → Seen → Result Content Fault
  from_unit c u = and_then (head_at bs (codes "frames") 4 u.place u.left) (from_frames c u)

  abbrev pub from_cores : Seen → Result Content Fault
  from_cores c = and_then (head_at bs (codes "unit") 3 c.place c.left) (from_unit c)

  -- a number of the head, and the lines from the next place on
  abbrev step : ℕ → ℕ → Seen
  step v next = record { value = v; place = next; left = lines (drop next bs) }

  module _ (at : ℕ) where
    pub one : (x : Result Seen Fault) → x ≡ head_at bs (codes "cores") 2 at (lines (drop at bs)) → after_mark bs at (lines (drop at bs)) ≡ and_then x from_cores
    one x e = ap (λ y. and_then y from_cores) (sym e)

    module _ (v n : ℕ) (ec : Ok (step v n) ≡ head_at bs (codes "cores") 2 at (lines (drop at bs))) where
      pub two : (x : Result Seen Fault) → x ≡ head_at bs (codes "unit") 3 n (lines (drop n bs)) → after_mark bs at (lines (drop at bs)) ≡ and_then x (from_unit (step v n))
      two x e = one (Ok (step v n)) ec ∙ ap (λ y. and_then y (from_unit (step v n))) (sym e)

      module _ (w m : ℕ) (eu : Ok (step w m) ≡ head_at bs (codes "unit") 3 n (lines (drop n bs))) where
        pub three : (x : Result Seen Fault) → x ≡ head_at bs (codes "frames") 4 m (lines (drop m bs)) → after_mark bs at (lines (drop at bs)) ≡ and_then x (from_frames (step v n) (step w m))
        three x e = two (Ok (step w m)) eu ∙ ap (λ y. and_then y (from_frames (step v n) (step w m))) (sym e)

  pub in_reading : in_bounds bs ≡ true → reading bs ≡ all_lines bs (lines bs)
  in_reading e = cond-true _ _ _ e

-- what is answered, and what the table holds: the tasks first, then blank entries
pub read_whole : (bs : List ℕ) (h : Head) (es : List Entry) → in_bounds bs ≡ true → Ok (record { head = h; entries = es }) ≡ all_lines bs (lines bs) →
    (Ok h ≡ answer (reading bs)) × (es ++ replicate (64 - length es) blank ≡ table_of (reading bs))
read_whole bs h es fit e =
    let whole : reading bs ≡ Ok (record { head = h; entries = es }) = in_reading bs fit ∙ sym e in
    (sym (ap answer whole), sym (ap table_of whole))

pub refused_whole : (bs : List ℕ) (f : Fault) → reading bs ≡ Err f → (Err f ≡ answer (reading bs)) × (replicate 64 blank ≡ table_of (reading bs))
refused_whole bs f e = (sym (ap answer e), sym (ap table_of e))
