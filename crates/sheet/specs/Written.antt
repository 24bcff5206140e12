-- Writing a sheet, and the law that reading it gives back what was written. A reader of the contracts has to believe this file.
use Rattle.std.specs.Prelude.{◌≡◌, ℕ, ◌≤◌, true, false, List, [], ◌∷◌, ◌++◌, map, length, take, Ok, codes, decimal, Result}
use Rattle.std.specs.List.{AllByRecursion}
use Rattle.std.specs.Str.{bytes_eq}
use Rattle.sheet.specs.Forms.{is_name}
use Rattle.sheet.specs.Reading.{name_of}
use Rattle.sheet.specs.declared.fault.Fault.{Fault}
use Rattle.sheet.specs.declared.table.Entry.{Entry}
use Rattle.sheet.specs.declared.table.Head.{Head}

-- A task: its name, its rate and its period.
pub record Task : Type 0 where
  pub name : List ℕ
  pub rate : ℕ
  pub period : ℕ

-- ---- how a sheet is written

-- A line of the head: a word, a comma, a number.
abbrev pub head_text : List ℕ → ℕ → List ℕ
head_text word n = word ++ 44 ∷ decimal n

-- A task's line.
abbrev pub task_text : Task → List ℕ
task_text t = codes "task" ++ 44 ∷ (t.name ++ 44 ∷ (decimal t.rate ++ 44 ∷ decimal t.period))

-- A line feed after each line.
abbrev pub ended : List (List ℕ) → List ℕ
ended [] = []
ended (l ∷ ls) = l ++ 10 ∷ ended ls

abbrev pub written_lines : Head → List Task → List (List ℕ)
written_lines h ts =
    codes "BLS,1" ∷ head_text (codes "cores") h.cores ∷ head_text (codes "unit") h.unit ∷ head_text (codes "frames") h.frames ∷ map task_text ts

abbrev pub written : Head → List Task → List ℕ
written h ts = ended (written_lines h ts)

-- ---- what a sheet can hold

abbrev pub Good : Task → Type 0
Good t = (is_name t.name ≡ true) × (t.rate ≤ 65535) × (1 ≤ t.period) × (t.period ≤ 65535)

-- No two of the tasks have one name.
abbrev pub Apart : List Task → Type 0
Apart [] = Unit {0}
Apart (t ∷ ts) = AllByRecursion (λ u. bytes_eq t.name u.name ≡ false) ts × Apart ts

-- A head and tasks that a sheet can hold. (That it is then not too long is proved.)
pub record Valid (h : Head) (ts : List Task) : Type 0 where
  pub cores : h.cores ≤ 65535
  pub unit : h.unit ≤ 65535
  pub frames : h.frames ≤ 65535
  pub count : h.tasks ≡ length ts
  pub some : 1 ≤ length ts
  pub few : length ts ≤ 64
  pub good : AllByRecursion Good ts
  pub apart : Apart ts

-- ---- the law

-- The task that an entry stands for.
abbrev pub task_of : List ℕ → Entry → Task
task_of bs e = record { name = name_of bs e; rate = e.rate; period = e.period }

-- A sheet that is written for a head and tasks is read as these.
abbrev pub Returned : List ℕ → List Entry → Result Head Fault → Type 0
Returned bs table r = (h : Head) (ts : List Task) → Valid h ts → bs ≡ written h ts → (r ≡ Ok h) × (map (task_of bs) (take (length ts) table) ≡ ts)
