-- What the tasks of a load are called where its plan is shown. A reader of the contracts has to believe this file.
use Rattle.std.specs.Prelude.{ℕ, cond, List, ◌++◌, nat_lt, codes, decimal}

-- A task of the load by its number; one past these is idle.
abbrev pub numbered : ℕ → ℕ → List ℕ
numbered own task = cond (nat_lt task own) (codes "task " ++ decimal task) (codes "idle task " ++ decimal task)
