-- What the tasks of a sheet are called where its plan is shown. A reader of the contracts has to believe this file.
use Rattle.std.specs.Prelude.{ℕ, cond, List, ◌++◌, Some, None, Option, codes, decimal}
use Rattle.std.specs.Str.{is_utf8}
use Rattle.sheet.specs.declared.table.Entry.{Entry}
use Rattle.sheet.specs.Reading.{name_of}

-- Some bytes, if they are text.
abbrev pub text_of : List ℕ → Option (List ℕ)
text_of bs = cond (is_utf8 bs) (Some bs) None

-- The part of the sheet that an entry says, if there is an entry and this is text.
abbrev pub own_name : List ℕ → Option Entry → Option (List ℕ)
own_name sheet None = None
own_name sheet (Some e) = text_of (name_of sheet e)

-- A task by its own name, and an idle one by its number.
abbrev pub called : Option (List ℕ) → ℕ → List ℕ
called (Some name) task = name
called None task = codes "idle task " ++ decimal task
