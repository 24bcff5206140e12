-- The tables of a run, read as the lists that the theory of runs speaks of.
use Rattle.std.specs.Prelude.{ℕ, Bool, false, List, [], map, take, None, slice_index_or}
use Rattle.arrayvec.specs.ArrayVec.{ArrayVec}
use Rattle.choosing.specs.Balance.{nothing}
use Rattle.levels.specs.declared.item.Item.{Item}
use Rattle.levels.specs.declared.server.Server.{Server}
use Rattle.levels.specs.Running as theory
use Rattle.run.specs.declared.state.State.{State}
use Rattle.run.specs.declared.task.Phase.TheVariants.{Served}
use Rattle.run.specs.declared.task.Task.{Task}

-- A task as an item of level 0.
abbrev pub item_of : Task → Item
item_of t = record { share = t.share; home = t.home }

-- What the first entries of each table hold.
abbrev pub tasks_of : State → List Item
tasks_of s = map item_of (take s.count s.tasks)

abbrev pub level_servers : ArrayVec Server → List Server
level_servers l = l.items

abbrev pub levels_of : State → List (List Server)
levels_of s = map level_servers s.levels.items

-- Level k; above the top stands one without servers.
abbrev pub no_level : ArrayVec Server
no_level = record { items = [] }

abbrev pub level_at : State → ℕ → ArrayVec Server
level_at s k = slice_index_or s.levels.items k no_level

-- The state and the machine of the theory.
abbrev pub view : State → theory.State
view s = record { tick = s.tick; tasks = tasks_of s; levels = levels_of s }

abbrev pub machine : State → theory.Machine
machine s = record { unit = s.unit; frames = s.frames; cores = s.cores }

-- A table of flags as a test: false past its end.
abbrev pub flags : List Bool → ℕ → Bool
flags bs i = slice_index_or bs i false

-- The task at a place of the table; past its end stands one without rate, job and home.
abbrev pub blank_task : Task
blank_task = record { share = nothing; home = None; phase = Served }

abbrev pub task_at : State → ℕ → Task
task_at s i = slice_index_or s.tasks i blank_task
