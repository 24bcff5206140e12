-- What a sheet reads as, line by line and so that it computes: its head and tasks, or a fault. Faults.antt says in the terms
-- of the table which of the two it is; both stand on the contract of `read`, and either fixes its answer.
use Rattle.std.specs.Prelude.{ℕ, ◌+◌, ◌-◌, Bool, cond, ◌&&◌, List, [], ◌∷◌, ◌++◌, length, take, drop, replicate, Some, None, Ok, Err, codes, Option, Result, ◌==◌, nat_le, slice_index}
use Rattle.std.specs.List.{list_any}
use Rattle.std.specs.Str.{bytes_eq}
use Rattle.sheet.specs.Forms.{number, period, is_name}
use Rattle.sheet.specs.Parts.{lines, fields}
use Rattle.sheet.specs.declared.fault.Cause.{Cause}
use Rattle.sheet.specs.declared.fault.Cause.TheVariants.{Bounds, Mark, Shape, Field, Repeated, Tasks}
use Rattle.sheet.specs.declared.fault.Fault.{Fault}
use Rattle.sheet.specs.declared.table.Entry.{Entry}
use Rattle.sheet.specs.declared.table.Head.{Head}

-- ---- entries and faults

abbrev pub fault : ℕ → ℕ → Cause → Fault
fault line place cause = record { line = line; place = place; cause = cause }

-- An entry with no task.
abbrev pub blank : Entry
blank = record { place = 0; size = 0; rate = 0; period = 0 }

-- The name of an entry is the part of the sheet that it occupies.
abbrev pub name_of : List ℕ → Entry → List ℕ
name_of bs e = take e.size (drop e.place bs)

-- The first fault decides.
abbrev pub and_then : {X Y : Type 0} → Result X Fault → (X → Result Y Fault) → Result Y Fault
and_then (Ok x) f = f x
and_then (Err e) f = Err e

-- ---- one line

-- The value of the field at a place, or that it is not of its form.
abbrev pub at_field : ℕ → ℕ → Option ℕ → Result ℕ Fault
at_field line place (Some v) = Ok v
at_field line place None = Err (fault line place Field)

-- A line of the head: a word and a number.
abbrev pub head_line : List ℕ → ℕ → ℕ → List (List ℕ) → Result ℕ Fault
head_line word line place [] = Err (fault line place Shape)
head_line word line place (w ∷ []) = Err (fault line place Shape)
head_line word line place (w ∷ v ∷ []) = cond (bytes_eq w word) (at_field line (place + length w + 1) (number v)) (Err (fault line place Shape))
head_line word line place (w ∷ v ∷ f ∷ fs) = Err (fault line place Shape)

-- The last three fields of a task's line, where `place` is that of the name.
abbrev pub task_fields : ℕ → ℕ → List ℕ → List ℕ → List ℕ → Result Entry Fault
task_fields line place n r p =
    cond (is_name n)
    (and_then (at_field line (place + length n + 1) (number r)) (λ rate.
    and_then (at_field line (place + length n + 1 + length r + 1) (period p)) (λ every.
    Ok (record { place = place; size = length n; rate = rate; period = every }))))
    (Err (fault line place Field))

-- A task's line: the word, a name, a rate and a period.
abbrev pub task_line : ℕ → ℕ → List (List ℕ) → Result Entry Fault
task_line line place [] = Err (fault line place Shape)
task_line line place (w ∷ []) = Err (fault line place Shape)
task_line line place (w ∷ n ∷ []) = Err (fault line place Shape)
task_line line place (w ∷ n ∷ r ∷ []) = Err (fault line place Shape)
task_line line place (w ∷ n ∷ r ∷ p ∷ []) = cond (bytes_eq w (codes "task")) (task_fields line (place + length w + 1) n r p) (Err (fault line place Shape))
task_line line place (w ∷ n ∷ r ∷ p ∷ f ∷ fs) = Err (fault line place Shape)

-- The test that one of the entries has this name.
abbrev pub used : List ℕ → List Entry → List ℕ → Bool
used bs es name = list_any (λ e. bytes_eq (name_of bs e) name) es

-- A task's line whose name no earlier entry has.
abbrev pub new_task : List ℕ → List Entry → ℕ → ℕ → List (List ℕ) → Result Entry Fault
new_task bs es line place fs =
    and_then (task_line line place fs) (λ e. cond (used bs es (name_of bs e)) (Err (fault line e.place Repeated)) (Ok e))

-- ---- line after line

-- The tasks of the lines that are left, after those of earlier lines; `line` and `place` are those of the first.
abbrev pub tasks_from : List ℕ → List Entry → ℕ → ℕ → List (List ℕ) → Result (List Entry) Fault
tasks_from bs es line place [] = cond (length es == 0) (Err (fault 5 (length bs) Tasks)) (Ok es)
tasks_from bs es line place (l ∷ ls) =
    cond (length es == 64) (Err (fault line place Tasks))
    (and_then (new_task bs es line place (fields l)) (λ e. tasks_from bs (es ++ e ∷ []) (line + 1) (place + length l + 1) ls))

-- A number of the head, and the lines after it with the place where they begin.
pub record Seen : Type 0 where
  pub value : ℕ
  pub place : ℕ
  pub left : List (List ℕ)

abbrev pub head_at : List ℕ → List ℕ → ℕ → ℕ → List (List ℕ) → Result Seen Fault
head_at bs word line place [] = Err (fault line (length bs) Shape)
head_at bs word line place (l ∷ ls) =
    and_then (head_line word line place (fields l)) (λ v. Ok (record { value = v; place = place + length l + 1; left = ls }))

-- What a sheet holds.
pub record Content : Type 0 where
  pub head : Head
  pub entries : List Entry

-- The lines after the first.
abbrev pub after_mark : List ℕ → ℕ → List (List ℕ) → Result Content Fault
after_mark bs place ls =
    and_then (head_at bs (codes "cores") 2 place ls) (λ c.
    and_then (head_at bs (codes "unit") 3 c.place c.left) (λ u.
    and_then (head_at bs (codes "frames") 4 u.place u.left) (λ f.
    and_then (tasks_from bs [] 5 f.place f.left) (λ es.
    Ok (record { head = record { cores = c.value; unit = u.value; frames = f.value; tasks = length es }; entries = es })))))

-- All lines.
abbrev pub all_lines : List ℕ → List (List ℕ) → Result Content Fault
all_lines bs [] = Err (fault 1 0 Mark)
all_lines bs (l ∷ ls) = cond (bytes_eq l (codes "BLS,1")) (after_mark bs (length l + 1) ls) (Err (fault 1 0 Mark))

-- 1 to 8,192 bytes, the last a line feed.
abbrev pub in_bounds : List ℕ → Bool
in_bounds bs = nat_le 1 (length bs) && (nat_le (length bs) 8192 && slice_index bs (length bs - 1) == 10)

-- The sheet.
abbrev pub reading : List ℕ → Result Content Fault
reading bs = cond (in_bounds bs) (all_lines bs (lines bs)) (Err (fault 0 0 Bounds))

-- ---- what the reader answers, and what it leaves in the table: the tasks, then blank entries

abbrev pub answer : Result Content Fault → Result Head Fault
answer (Ok c) = Ok c.head
answer (Err f) = Err f

abbrev pub table_of : Result Content Fault → List Entry
table_of (Ok c) = c.entries ++ replicate (64 - length c.entries) blank
table_of (Err f) = replicate 64 blank
