-- The faults that a sheet can have, which of them is told, and what a sheet without any holds. A reader of the contracts has to
-- believe this file.
use Rattle.std.specs.Prelude.{◌≡◌, ℕ, ◌+◌, ◌-◌, ◌<◌, ◌≤◌, Bool, true, cond, ◌≢◌, ◌⊎◌, List, [], ◌∷◌, length, take, drop, replicate, Ok, Err, codes, Result, ◌==◌, slice_index, slice_index_or}
use Rattle.sheet.specs.Forms.{is_word, is_number, is_period, is_name, value}
use Rattle.sheet.specs.Parts.{lines, fields}
use Rattle.sheet.specs.Reading.{blank, name_of}
use Rattle.sheet.specs.declared.fault.Cause.{Cause}
use Rattle.sheet.specs.declared.fault.Cause.TheVariants.{Bounds, Mark, Shape, Field, Repeated, Tasks, Opening}
use Rattle.sheet.specs.declared.fault.Fault.{Fault}
use Rattle.sheet.specs.declared.table.Entry.{Entry}
use Rattle.sheet.specs.declared.table.Head.{Head}

-- ---- lines and fields, and their places

-- The bytes that parts take, each with the byte that stands after it.
abbrev pub extent : List (List ℕ) → ℕ
extent [] = 0
extent (p ∷ ps) = length p + 1 + extent ps

-- Line k, counted from 1, and the place where it begins.
abbrev pub line_at : List ℕ → ℕ → List ℕ
line_at bs k = slice_index_or (lines bs) (k - 1) []

abbrev pub line_place : List ℕ → ℕ → ℕ
line_place bs k = extent (take (k - 1) (lines bs))

-- Field i of line k, where field 0 is its first word, and the place where it begins.
abbrev pub field_at : List ℕ → ℕ → ℕ → List ℕ
field_at bs k i = slice_index_or (fields (line_at bs k)) i []

abbrev pub field_place : List ℕ → ℕ → ℕ → ℕ
field_place bs k i = line_place bs k + extent (take i (fields (line_at bs k)))

-- ---- what a line has to be

-- The forms of the fields of a line of the head, and of a task's line.
abbrev pub head_forms : List ℕ → List (List ℕ → Bool)
head_forms word = is_word word ∷ is_number ∷ []

abbrev pub task_forms : List (List ℕ → Bool)
task_forms = is_word (codes "task") ∷ is_name ∷ is_number ∷ is_period ∷ []

-- The forms of the fields of line k, from line 2 on.
abbrev pub forms : ℕ → List (List ℕ → Bool)
forms k =
    cond (k == 2) (head_forms (codes "cores")) (cond (k == 3) (head_forms (codes "unit")) (cond (k == 4) (head_forms (codes "frames")) task_forms))

-- A field passes form i of a list. Nothing is asked of a field that no form is for.
abbrev pub passes : List (List ℕ → Bool) → ℕ → List ℕ → Bool
passes fs i f = slice_index_or fs i (λ _. true) f

-- Line k is there, and is not the first.
abbrev pub There : List ℕ → ℕ → Type 0
There bs k = (2 ≤ k) × (k ≤ length (lines bs))

-- Field i of line k is of its form.
abbrev pub Formed : List ℕ → ℕ → ℕ → Type 0
Formed bs k i = passes (forms k) i (field_at bs k i) ≡ true

-- Line k has as many fields as there are forms, and the first is its word.
abbrev pub Shaped : List ℕ → ℕ → Type 0
Shaped bs k = (length (fields (line_at bs k)) ≡ length (forms k)) × Formed bs k 0

-- Line k is a task's.
abbrev pub TaskLine : List ℕ → ℕ → Type 0
TaskLine bs k = There bs k × (5 ≤ k) × Shaped bs k

-- ---- the table of faults

-- When a row holds of a sheet, at a line and a place.
abbrev pub Holds : List ℕ → ℕ → ℕ → Cause → Type 0
Holds bs k place Bounds = (k ≡ 0) × (place ≡ 0) × ((length bs ≡ 0) ⊎ (8192 < length bs) ⊎ (slice_index bs (length bs - 1) ≢ 10))
Holds bs k place Mark = (k ≡ 1) × (place ≡ 0) × (line_at bs 1 ≢ codes "BLS,1")
-- a line that is not of its shape; or one of lines 2 to 4 that is missing
Holds bs k place Shape =
    (There bs k × (place ≡ line_place bs k) × (Shaped bs k → ⊥)) ⊎ ((2 ≤ k) × (k ≤ 4) × (length (lines bs) < k) × (place ≡ length bs))
-- a field after the first that is not of its form
Holds bs k place Field = There bs k × Shaped bs k × ((i : ℕ) × (1 ≤ i) × (place ≡ field_place bs k i) × (Formed bs k i → ⊥))
-- a task whose name is that of an earlier one
Holds bs k place Repeated =
    TaskLine bs k × (place ≡ field_place bs k 1) × ((j : ℕ) × (j < k) × TaskLine bs j × (field_at bs j 1 ≡ field_at bs k 1))
-- one task too many, or none
Holds bs k place Tasks = ((k ≡ 69) × There bs 69 × (place ≡ line_place bs 69)) ⊎ ((k ≡ 5) × (length (lines bs) < 5) × (place ≡ length bs))
-- no fault of reading
Holds bs k place (Opening r) = ⊥

abbrev pub Applies : List ℕ → Fault → Type 0
Applies bs f = Holds bs f.line f.place f.cause

-- ---- which fault is told

-- The order of the causes within a line. (Lines 0 and 1 have one cause each.)
abbrev pub rank : Cause → ℕ
rank Bounds = 0
rank Mark = 1
rank Tasks = 2
rank Shape = 3
rank Field = 4
rank Repeated = 5
rank (Opening r) = 6

-- In one line the cause decides, and of one cause the smaller place.
abbrev pub Sooner : Cause → ℕ → Cause → ℕ → Type 0
Sooner c place d other = (rank c < rank d) ⊎ ((rank c ≡ rank d) × (place < other))

-- The smaller line decides.
abbrev pub Before : Fault → Fault → Type 0
Before f g = (f.line < g.line) ⊎ ((f.line ≡ g.line) × Sooner f.cause f.place g.cause g.place)

-- The fault that counts: its row holds, and none before it does.
abbrev pub First : List ℕ → Fault → Type 0
First bs f = Applies bs f × ((g : Fault) → Applies bs g → Before g f → ⊥)

-- No row holds.
abbrev pub Sound : List ℕ → Type 0
Sound bs = (f : Fault) → Applies bs f → ⊥

-- ---- what a sound sheet holds

-- The numbers of lines 2 to 4, and how many lines follow.
abbrev pub head_of : List ℕ → Head
head_of bs = record {
  cores = value (field_at bs 2 1);
  unit = value (field_at bs 3 1);
  frames = value (field_at bs 4 1);
  tasks = length (lines bs) - 4;
}

-- The task of line k: where its name stands and how long it is, its rate and its period.
abbrev pub entry_of : List ℕ → ℕ → Entry
entry_of bs k = record {
  place = field_place bs k 1;
  size = length (field_at bs k 1);
  rate = value (field_at bs k 2);
  period = value (field_at bs k 3);
}

-- A task that can stand in a table: its name lies in the sheet and is one, and its numbers are of their forms.
pub record TaskEntry (bs : List ℕ) (e : Entry) : Type 0 where
  pub within : e.place + e.size ≤ length bs
  pub named : is_name (name_of bs e) ≡ true
  pub some : 1 ≤ e.size
  pub short : e.size ≤ 12
  pub rated : e.rate ≤ 65535
  pub periodic : 1 ≤ e.period
  pub small : e.period ≤ 65535

-- ---- what the reader answers and leaves

-- Refused: by the one fault that counts, and the table is blank.
pub record Refused (bs : List ℕ) (table : List Entry) (f : Fault) : Type 0 where
  pub first : First bs f
  pub only : (g : Fault) → First bs g → g ≡ f
  pub blank : table ≡ replicate 64 blank

-- Read: no row holds, the head is that of the sheet, and the table has its tasks in order, then blank entries.
pub record Taken (bs : List ℕ) (table : List Entry) (h : Head) : Type 0 where
  pub sound : Sound bs
  pub head : h ≡ head_of bs
  pub some : 1 ≤ h.tasks
  pub few : h.tasks ≤ 64
  pub tasks : (i : ℕ) → i < h.tasks → slice_index_or table i blank ≡ entry_of bs (i + 5)
  pub rest : drop h.tasks table ≡ replicate (64 - h.tasks) blank
  -- the name of each is the part of the sheet that it occupies, the second field of its line
  pub names : (i : ℕ) → i < h.tasks → name_of bs (slice_index_or table i blank) ≡ field_at bs (i + 5) 1
  pub entries : (i : ℕ) → i < h.tasks → TaskEntry bs (slice_index_or table i blank)

abbrev pub Told : List ℕ → List Entry → Result Head Fault → Type 0
Told bs table (Err f) = Refused bs table f
Told bs table (Ok h) = Taken bs table h
