-- What a frame start and a tick do to the tables, level by level; only contracts of private functions cite this.
use Rattle.std.specs.Prelude.{◌≡◌, ℕ, zero, suc, ◌<◌, Bool, true, false, cond, List, [], ◌∷◌, length, Some, None, Option, slice_set}
use Rattle.std.specs.List.{AllByRecursion}
use Rattle.packing.specs.Packing.{at_home}
use Rattle.choosing.specs.Choosing.{Rule}
use Rattle.cores.specs.Naming.{Names}
use Rattle.levels.specs.declared.item.Item.{Item}
use Rattle.levels.specs.declared.server.Server.{Server}
use Rattle.levels.specs.Items.{packed}
use Rattle.levels.specs.Ticking.{always, named, picked, picks, spend_items, spend_levels, spend_servers}
use Rattle.levels.specs.Renewing.{renew_servers}
use Rattle.levels.specs.Running.{runs, step}
use Rattle.levels.specs.Sums.{passing}
use Rattle.run.specs.Phases.{next}
use Rattle.run.specs.Changing.{with_all, with_level, with_tables}
use Rattle.run.specs.Views.{flags, level_at, levels_of, machine, task_at, tasks_of, view}
use Rattle.run.specs.declared.state.State.{State}
use Rattle.run.specs.declared.task.Event.TheVariants.{Tick}
use Rattle.run.specs.declared.task.Task.{Task}

-- ---- parts of the tables

-- The servers of level k, and the items that it packs.
abbrev pub servers_at : State → ℕ → List Server
servers_at s k = (level_at s k).items

abbrev pub items_at : State → ℕ → List Item
items_at s k = packed s.unit (tasks_of s) (levels_of s) k

-- ---- the places of clients

-- The places of the clients of server j among the items, the first of which is at place i.
abbrev pub places_from : ℕ → List Item → ℕ → List ℕ
places_from i [] j = []
places_from i (x ∷ xs) j = cond (at_home x.home j) (i ∷ places_from (suc i) xs j) (places_from (suc i) xs j)

-- The place of the client that a server names, from its number among the clients.
abbrev pub place_of : Option ℕ → List ℕ → Option ℕ
place_of None places = None
place_of (Some k) [] = None
place_of (Some zero) (i ∷ places) = Some i
place_of (Some (suc k)) (i ∷ places) = place_of (Some k) places

-- A place below 80, or none.
abbrev pub Placed : Option ℕ → Type 0
Placed None = Unit {0}
Placed (Some i) = i < 80

-- The marks with one more, or with none.
abbrev pub marked : Option ℕ → List Bool → List Bool
marked None marks = marks
marked (Some i) marks = slice_set marks i true

-- ---- turns

-- A task after a tick that names it, or does not.
abbrev pub tick_if : Bool → Task → Task
tick_if true t = next t Tick
tick_if false t = t

-- The tasks that the levels name, as they stand.
abbrev pub names : Rule → State → ℕ → Bool
names rule s i = named (always rule) s.unit (tasks_of s) (levels_of s) i

-- The items that level k names.
abbrev pub names_at : Rule → State → ℕ → (ℕ → Bool) → ℕ → Bool
names_at rule s k dual_named i = picked (picks (λ _. rule) (items_at s k) (servers_at s k) dual_named) (items_at s k) i

-- Level k has run: its servers or their duals have spent the tick. Only that level is another.
pub record Ran (entry exit : State) (k : ℕ) (dual_named : List Bool) : Type 0 where
  pub spends : servers_at exit k ≡ spend_servers (flags dual_named) (servers_at entry k)
  pub alone : exit ≡ with_level entry k (level_at exit k)

-- Level k is renewed at frame f. Only that level is another.
pub record Renewed (entry exit : State) (k f : ℕ) : Type 0 where
  pub renews : servers_at exit k ≡ renew_servers entry.unit entry.frames f (items_at entry k) 0 (servers_at entry k)
  pub alone : exit ≡ with_level entry k (level_at exit k)

-- All levels have run, and these are the numbers of the tasks that are named.
pub record RanAll (rule : Rule) (entry exit : State) (numbers : List ℕ) : Type 0 where
  pub levels : levels_of exit ≡ spend_levels (always rule) entry.unit (levels_of entry)
  pub tasks : tasks_of exit ≡ spend_items (names rule entry) (tasks_of entry)
  pub each : (i : ℕ) → task_at exit i ≡ tick_if (names rule entry i) (task_at entry i)
  pub listed : numbers ≡ passing 0 entry.count (names rule entry)
  pub exactly : Names (names rule entry) numbers
  pub below : AllByRecursion (λ i. i < entry.count) numbers
  pub kept : exit ≡ with_tables entry exit.tasks exit.levels
  pub table : length exit.tasks ≡ 80

-- The run has gone on by one step of the theory, and these are the numbers of the tasks that run in it.
pub record GoneOn (rule : Rule) (entry exit : State) (numbers : List ℕ) : Type 0 where
  pub goes : view exit ≡ step (always rule) (machine entry) (view entry)
  pub stays : machine exit ≡ machine entry
  pub each : (i : ℕ) → task_at exit i ≡ tick_if (runs (always rule) (machine entry) (view entry) i) (task_at entry i)
  pub listed : numbers ≡ passing 0 entry.count (runs (always rule) (machine entry) (view entry))
  pub exactly : Names (runs (always rule) (machine entry) (view entry)) numbers
  pub below : AllByRecursion (λ i. i < entry.count) numbers
  pub kept : exit ≡ with_all entry (suc entry.tick) exit.tasks exit.levels
  pub table : length exit.tasks ≡ 80
