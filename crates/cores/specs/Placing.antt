-- Which core each task gets that a tick names. A reader of the contracts has to believe this file.
use Rattle.std.specs.Prelude.{ℕ, suc, min, Bool, true, false, cond, not, ◌&&◌, List, [], ◌∷◌, length, replicate, Some, None, fold, Option, ◌==◌, nat_lt, slice_index_or, slice_set}
use Rattle.cores.specs.declared.place.Cores.{Cores}

-- ---- the record of the cores

-- For each of the 16 cores the task that it holds.
abbrev pub Slots : Type 0
Slots = List (Option ℕ)

-- The record with these tables: for each of 80 tasks the core that it last ran on, and what the cores hold.
abbrev pub tables : (last held : List (Option ℕ)) → Cores
tables last held = record { last = last; held = held }

-- Before the first tick no task has run.
abbrev pub blank : Cores
blank = tables (replicate 80 None) (replicate 16 None)

-- There is room for 16 cores.
abbrev pub limited : ℕ → ℕ
limited cores = min cores 16

-- The test that it is task t.
abbrev pub is_task : Option ℕ → ℕ → Bool
is_task None t = false
is_task (Some u) t = t == u

-- The test that a core, if there is one, holds task t.
abbrev pub has : Slots → ℕ → Option ℕ → Bool
has held t None = false
has held t (Some c) = is_task (slice_index_or held c None) t

-- The test that a task is on the core that it last ran on. In the record of a tick, these are the tasks that the tick named.
abbrev pub seated : Cores → ℕ → Bool
seated s t = has s.held t (slice_index_or s.last t None)

-- ---- the three passes, each over the named tasks in order, on the first n cores

abbrev pub is_none : Option ℕ → Bool
is_none None = true
is_none (Some t) = false

-- A task takes a core, if it is one of the n and free.
abbrev pub claim : ℕ → Slots → ℕ → Option ℕ → Slots
claim n slots t None = slots
claim n slots t (Some c) = cond (nat_lt c n && is_none (slice_index_or slots c None)) (slice_set slots c (Some t)) slots

-- A task takes the core that it last ran on.
abbrev pub claims : List (Option ℕ) → ℕ → Slots → ℕ → Slots
claims last n slots t = claim n slots t (slice_index_or last t None)

-- First: a task that the tick before named too keeps its core.
abbrev pub keeps : Cores → ℕ → Slots → ℕ → Slots
keeps before n slots t = cond (seated before t) (claims before.last n slots t) slots

-- Second: the others take the core that they last ran on, if it is free, by `claims` again. A task that stays has its core,
-- which is free no longer, so its second claim changes nothing.

-- The lowest free core; their number, if none is free.
abbrev pub first_free : Slots → ℕ
first_free [] = 0
first_free (None ∷ slots) = 0
first_free (Some t ∷ slots) = suc (first_free slots)

-- The test that a task has no core so far. What is past the table is no task, and does not wait.
abbrev pub waits : Cores → ℕ → Bool
waits s t = nat_lt t (length s.last) && not (seated s t)

-- A task is put on a core.
abbrev pub seat : Cores → (task core : ℕ) → Cores
seat s t c = tables (slice_set s.last t (Some c)) (slice_set s.held c (Some t))

-- Third: a task that still waits takes the lowest free core.
abbrev pub settles : ℕ → Cores → ℕ → Cores
settles n s t = cond (waits s t && nat_lt (first_free s.held) n) (seat s t (first_free s.held)) s

-- The slots after the first two passes, and the record after all three, from slots as they are found.
abbrev pub kept : Cores → Slots → List ℕ → ℕ → Slots
kept before slots named n = fold (claims before.last n) (fold (keeps before n) slots named) named

abbrev pub placed_on : Cores → Slots → List ℕ → ℕ → Cores
placed_on before slots named n = fold (settles n) (tables before.last (kept before slots named n)) named

-- The record after a tick that names these tasks, on n cores: all slots are free at first.
abbrev pub placed : Cores → List ℕ → ℕ → Cores
placed before named n = placed_on before (replicate 16 None) named n

-- ---- the core list

-- One entry, if the core holds a task.
abbrev pub put : List ℕ → ℕ → Option ℕ → List ℕ
put list c None = list
put list c (Some t) = slice_set list c t

-- The task of each core, as far as the list goes; a core without a task leaves its entry as it is.
abbrev pub written : Slots → List ℕ → List ℕ
written [] list = list
written (s ∷ slots) [] = []
written (None ∷ slots) (n ∷ list) = n ∷ written slots list
written (Some t ∷ slots) (n ∷ list) = t ∷ written slots list
