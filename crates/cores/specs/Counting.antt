-- What counts as a preemption. A reader of the contracts has to believe this file.
use Rattle.std.specs.Prelude.{◌≡◌, ℕ, ◌<◌, true, false, not, List, length, Some, None, filter, Option}
use Rattle.cores.specs.Naming.{member}

-- Of the tasks that the tick before named and that had left after it, those that this tick does not name, counted.
abbrev pub preemptions : (unfinished named : List ℕ) → ℕ
preemptions unfinished named = length (filter (λ t. not (member t named)) unfinished)

-- ---- for private contracts

-- A place at which a list names the task, or none.
abbrev pub LookedUp : List ℕ → ℕ → Option ℕ → Type 0
LookedUp named t (Some k) = (k < length named) × (member t named ≡ true)
LookedUp named t None = member t named ≡ false
