-- The lines that are left of a sheet, and what is read of them; only contracts of private functions cite this.
use Rattle.std.specs.Prelude.{ℕ, List, drop, Ok, Result}
use Rattle.arrayvec.specs.ArrayVec.{ArrayVec}
use Rattle.sheet.specs.Parts.{lines}
use Rattle.sheet.specs.Reading.{Seen, Content, and_then}
use Rattle.sheet.specs.declared.fault.Fault.{Fault}
use Rattle.sheet.specs.declared.table.Entry.{Entry}
use Rattle.sheet.specs.declared.lines.Lines.{Lines}
use Rattle.sheet.specs.declared.reader.Sheet.{Sheet}

abbrev pub left : Lines → List (List ℕ)
left s = lines (drop s.at s.sheet.now)

-- A number of the head, behind which these lines are left.
abbrev pub seen : Lines → Result ℕ Fault → Result Seen Fault
seen s r = and_then r (λ v. Ok (record { value = v; place = s.at; left = left s }))

-- The tasks that were read, and the head with them.
abbrev pub items_of : Result (ArrayVec Entry) Fault → Result (List Entry) Fault
items_of r = and_then r (λ v. Ok v.items)

abbrev pub content_of : Result Sheet Fault → Result Content Fault
content_of r = and_then r (λ s. Ok (record { head = s.head; entries = s.tasks.items }))
