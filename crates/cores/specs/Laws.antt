-- What a placing is good for, whatever is named. A reader of the contracts has to believe this file.
use Rattle.std.specs.Prelude.{◌≡◌, ℕ, ◌<◌, ◌≤◌, true, false, ◌⊎◌, List, ◌∷◌, ◌++◌, length, take, drop, Some, None, slice_index, slice_index_or}
use Rattle.std.specs.List.{AllByRecursion}
use Rattle.cores.specs.Naming.{member, Different, Names}
use Rattle.cores.specs.declared.place.Cores.{Cores}

-- Task t is on core c; task t last ran on core c.
abbrev pub On : Cores → (task core : ℕ) → Type 0
On s t c = slice_index_or s.held c None ≡ Some t

abbrev pub LastOn : Cores → (task core : ℕ) → Type 0
LastOn s t c = slice_index_or s.last t None ≡ Some c

-- Each task on a core has that core as its last. So no task is on two cores.
abbrev pub Recorded : Cores → Type 0
Recorded s = (t c : ℕ) → On s t c → LastOn s t c

-- As a tick should name tasks: different ones, numbered below 80, as many as there are cores or fewer.
pub record Fitting (named : List ℕ) (cores : ℕ) : Type 0 where
  pub different : Different named
  pub tasks : AllByRecursion (λ t. t < 80) named
  pub enough : length named ≤ cores

-- The laws of a placing: the record before, the tasks named, the cores, the record after.
pub record Lawful (before : Cores) (named : List ℕ) (cores : ℕ) (after : Cores) : Type 0 where
  -- a task that was on a core before and is named again is still on that core
  pub keeps : Recorded before → (t c : ℕ) → On before t c → member t named ≡ true → c < cores → On after t c
  -- the last core of a named task goes to it, or stays with the task that had it before, or goes to one named earlier
  pub returns : (earlier later : List ℕ) (t c : ℕ) → named ≡ earlier ++ t ∷ later → LastOn before t c → c < cores
      → (u : ℕ) × On after u c × ((u ≡ t) ⊎ (On before u c ⊎ (member u earlier ≡ true)))
  -- a task on a core is named, and the core is one of the cores
  pub only_named : (t c : ℕ) → On after t c → (member t named ≡ true) × (c < cores)
  -- no task is on two cores
  pub one_core : (t c d : ℕ) → On after t c → On after t d → c ≡ d
  -- a task on a core has it as its last; what is not named has the last core that it had
  pub recorded : Recorded after
  pub others : (t : ℕ) → member t named ≡ false → slice_index_or after.last t None ≡ slice_index_or before.last t None
  -- every named task has a core; and every core has a task, if as many are named as there are cores
  pub all_placed : Fitting named cores → (t : ℕ) → member t named ≡ true → (c : ℕ) × (c < cores) × On after t c
  pub all_busy : Fitting named cores → length named ≡ cores → (c : ℕ) → c < cores → (t : ℕ) × On after t c

-- What the core list shows afterwards.
pub record Listed (named : List ℕ) (cores : ℕ) (after : Cores) (old new : List ℕ) : Type 0 where
  -- the task of each core, as far as it goes
  pub shows : (t c : ℕ) → On after t c → c < length old → slice_index new c ≡ t
  -- after the cores nothing has changed
  pub beyond : drop cores new ≡ drop cores old
  -- as many tasks as cores, and a list that is long enough: it names exactly the named tasks, each once
  pub names : Fitting named cores → length named ≡ cores → cores ≤ length old → Names (λ t. member t named) (take cores new)
