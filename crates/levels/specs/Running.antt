-- The state of a run, and its two steps: announcing a job, and a tick. A reader of the contracts has to believe this file.
use Rattle.std.specs.Prelude.{ℕ, suc, ◌/◌, ◌%◌, Bool, cond, List, ◌==◌, slice_set}
use Rattle.choosing.specs.declared.share.Share.{Share}
use Rattle.levels.specs.declared.item.Item.{Item}
use Rattle.levels.specs.declared.server.Server.{Server}
use Rattle.levels.specs.Items.{item_at}
use Rattle.levels.specs.Ticking.{Rules, named, spend_items, spend_levels}
use Rattle.levels.specs.Renewing.{job, renew_levels}

-- What a run is given: the ticks of a frame, how many frames it lasts, and the cores.
pub record Machine : Type 0 where
  pub unit : ℕ
  pub frames : ℕ
  pub cores : ℕ

-- The ticks gone by, the tasks, and the servers of each level, the lowest first.
pub record State : Type 0 where
  pub tick : ℕ
  pub tasks : List Item
  pub levels : List (List Server)

-- The share of task i.
abbrev pub task : State → ℕ → Share
task st i = (item_at st.tasks i).share

-- Task i, whose deadline is now, gets its next job, with its deadline at frame d.
abbrev pub item_with_job : ℕ → Item → Item
item_with_job d x = record { share = job x.share.rate x.share.deadline d; home = x.home }

abbrev pub announce : ℕ → ℕ → State → State
announce i d st = record { tick = st.tick; tasks = slice_set st.tasks i (item_with_job d (item_at st.tasks i)); levels = st.levels }

-- The levels as a tick finds them: the first tick of a frame renews the servers.
abbrev pub ready : Machine → State → List (List Server)
ready m st =
    cond (st.tick % m.unit == 0) (renew_levels m.unit m.frames (st.tick / m.unit) st.tasks st.levels) st.levels

-- Task i runs in this tick.
abbrev pub runs : Rules → Machine → State → ℕ → Bool
runs rules m st i = named rules m.unit st.tasks (ready m st) i

-- The state after the tick.
abbrev pub step : Rules → Machine → State → State
step rules m st = record {
  tick = suc st.tick;
  tasks = spend_items (runs rules m st) st.tasks;
  levels = spend_levels rules m.unit (ready m st);
}
