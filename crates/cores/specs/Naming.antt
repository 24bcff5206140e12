-- Lists of task numbers. A reader of the contracts has to believe this file.
use Rattle.std.specs.Prelude.{◌≡◌, ℕ, Bool, false, ◌||◌, List, [], ◌∷◌, ◌==◌}

-- The test that a list names the task.
abbrev pub member : ℕ → List ℕ → Bool
member t [] = false
member t (u ∷ us) = t == u || member t us

-- No task is named twice.
abbrev pub Different : List ℕ → Type 0
Different [] = Unit {0}
Different (t ∷ ts) = (member t ts ≡ false) × Different ts

-- A list of exactly the tasks that pass a test, each once, in any order.
abbrev pub Names : (ℕ → Bool) → List ℕ → Type 0
Names test ts = Different ts × ((t : ℕ) → member t ts ≡ test t)
