-- What each cause of a fault says, the fault of a refused opening, and how a fault is printed. A reader of the contracts has to
-- believe this file.
use Rattle.std.specs.Prelude.{ℕ, ◌+◌, cond, List, ◌++◌, None, codes, decimal, nat_lt}
use Rattle.packing.specs.Openings.{opening_row}
use Rattle.packing.specs.Refusals.{Row}
use Rattle.packing.specs.declared.opening.OpeningRefusal.{OpeningRefusal}
use Rattle.packing.specs.declared.opening.OpeningRefusal.TheVariants.{Load, BadFrames}
use Rattle.packing.specs.declared.refusal.Refusal.TheVariants.{BadCores, BadUnit, BadTaskCount, BadRate, Overload}
use Rattle.sheet.specs.declared.fault.Cause.{Cause}
use Rattle.sheet.specs.declared.fault.Cause.TheVariants.{Bounds, Mark, Shape, Field, Repeated, Tasks, Opening}
use Rattle.sheet.specs.declared.fault.Fault.{Fault}

-- A row of the table that names no task.
abbrev numbered : ℕ → Row
numbered n = record { number = n; task = None }

-- The number of each cause, and the task that it names.
abbrev pub cause_row : Cause → Row
cause_row Bounds = numbered 51
cause_row Mark = numbered 52
cause_row Shape = numbered 53
cause_row Field = numbered 54
cause_row Repeated = numbered 55
cause_row Tasks = numbered 56
cause_row (Opening r) = opening_row r

-- The line of the sheet that an opening was refused for; 0 where it is no single line. Task 0 stands in line 5.
abbrev pub opening_line : OpeningRefusal → ℕ
opening_line (Load BadCores) = 2
opening_line (Load BadUnit) = 3
opening_line BadFrames = 4
opening_line (Load BadTaskCount) = 0
opening_line (Load (BadRate task)) = cond (nat_lt task 64) (task + 5) 0
opening_line (Load Overload) = 0

-- A sheet that reads, and whose opening is refused.
abbrev pub opening_fault : OpeningRefusal → Fault
opening_fault r = record { line = opening_line r; place = 0; cause = Opening r }

-- How a fault is printed.
abbrev pub printed : Fault → List ℕ
printed f = codes "no," ++ (decimal (cause_row f.cause).number ++ (codes "," ++ (decimal f.line ++ (codes "," ++ decimal f.place))))
