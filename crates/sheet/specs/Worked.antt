-- Worked sheets: one that reads, and some for each cause, with number, line and place. Each follows by computing.
use Rattle.std.specs.Prelude.{◌≡◌, ℕ, List, [], ◌∷◌, ◌++◌, Ok, Err, codes, Result}
use Rattle.packing.specs.declared.opening.OpeningRefusal.TheVariants.{Load, BadFrames}
use Rattle.packing.specs.declared.refusal.Refusal.TheVariants.{BadCores, BadUnit, BadRate, Overload}
use Rattle.sheet.specs.Causes.{cause_row, opening_fault}
use Rattle.sheet.specs.Reading.{Content, reading}
use Rattle.sheet.specs.Written.{ended}
use Rattle.sheet.specs.declared.fault.Fault.{Fault}

-- The number, the line and the place of a fault.
abbrev pub fault_numbers : Fault → List ℕ
fault_numbers f = (cause_row f.cause).number ∷ f.line ∷ f.place ∷ []

-- Those of a refused sheet, and nothing for one that reads.
abbrev pub told_numbers : Result Content Fault → List ℕ
told_numbers (Ok c) = []
told_numbers (Err f) = fault_numbers f

-- A sheet of these lines, and one of these lines after a head of 31 bytes.
abbrev told : List (List ℕ) → List ℕ
told lines = told_numbers (reading (ended lines))

abbrev head : List (List ℕ)
head = codes "BLS,1" ∷ codes "cores,2" ∷ codes "unit,10" ∷ codes "frames,6" ∷ []

pub record WorkedSheets : Type 0 where
  pub reads : reading (ended (head ++ codes "task,A,5,2" ∷ codes "task,B7,0,3" ∷ [])) ≡ Ok (record {
    head = record { cores = 2; unit = 10; frames = 6; tasks = 2 };
    entries = record { place = 36; size = 1; rate = 5; period = 2 } ∷ record { place = 47; size = 2; rate = 0; period = 3 } ∷ [];
  })
  pub empty : told [] ≡ 51 ∷ 0 ∷ 0 ∷ []
  pub unended : told_numbers (reading (codes "BLS,1")) ≡ 51 ∷ 0 ∷ 0 ∷ []
  pub version : told (codes "BLS,2" ∷ []) ≡ 52 ∷ 1 ∷ 0 ∷ []
  pub missing : told (codes "BLS,1" ∷ codes "cores,2" ∷ []) ≡ 53 ∷ 3 ∷ 14 ∷ []
  pub empty_line : told (codes "BLS,1" ∷ [] ∷ []) ≡ 53 ∷ 2 ∷ 6 ∷ []
  pub other_word : told (head ++ codes "Task,a,05,0" ∷ []) ≡ 53 ∷ 5 ∷ 31 ∷ []
  pub no_name : told (head ++ codes "task,a,05,0" ∷ []) ≡ 54 ∷ 5 ∷ 36 ∷ []
  pub leading_zero : told (head ++ codes "task,A,05,0" ∷ []) ≡ 54 ∷ 5 ∷ 38 ∷ []
  pub no_period : told (head ++ codes "task,A,5,0" ∷ []) ≡ 54 ∷ 5 ∷ 40 ∷ []
  pub too_high : told (head ++ codes "task,7,65536,2" ∷ []) ≡ 54 ∷ 5 ∷ 38 ∷ []
  pub twice : told (head ++ codes "task,A,5,2" ∷ codes "task,A,1,1" ∷ codes "x" ∷ []) ≡ 55 ∷ 6 ∷ 47 ∷ []
  pub none : told head ≡ 56 ∷ 5 ∷ 31 ∷ []
  -- openings
  pub cores : fault_numbers (opening_fault (Load BadCores)) ≡ 1 ∷ 2 ∷ 0 ∷ []
  pub unit : fault_numbers (opening_fault (Load BadUnit)) ≡ 2 ∷ 3 ∷ 0 ∷ []
  pub frames : fault_numbers (opening_fault BadFrames) ≡ 3 ∷ 4 ∷ 0 ∷ []
  pub second_task : fault_numbers (opening_fault (Load (BadRate 1))) ≡ 5 ∷ 6 ∷ 0 ∷ []
  pub overload : fault_numbers (opening_fault (Load Overload)) ≡ 6 ∷ 0 ∷ 0 ∷ []
