-- What holds in every state of a run. Only the theorem that every state is sound cites this file.
use Rattle.std.specs.Prelude.{◌≡◌, ℕ, ◌+◌, ◌*◌, ◌<◌, ◌≤◌, ◌⊎◌, List, [], ◌∷◌, length, None}
use Rattle.choosing.specs.declared.share.Share.{Share}
use Rattle.choosing.specs.Balance.{SomeAt, Loosely}
use Rattle.levels.specs.declared.item.Item.{Item}
use Rattle.levels.specs.declared.server.Server.{Server}
use Rattle.levels.specs.Items.{server_at, clients, duals, Homed, item_rates}
use Rattle.levels.specs.Running.{Machine, State, task}
use Rattle.levels.specs.Opening.{WellRated, Housed}

-- A server and its clients at tick t. In each tick either the server runs or its dual, so what is left of both is the time
-- up to their deadline.
pub record Kept (unit frames t : ℕ) (s : Server) (cs : List Share) : Type 0 where
  pub loosely : Loosely s.share cs
  pub well_rated : WellRated unit s.share.rate s.home
  pub split : s.share.left + s.dual + t ≡ unit * s.share.deadline
  -- the dual of a root has nothing left
  pub root_dual : s.home ≡ None → s.dual ≡ 0
  -- the least deadline of the clients is the server's, or a renewal is due
  pub least : SomeAt s.share.deadline cs ⊎ (t ≡ unit * s.share.deadline)
  pub within : s.share.deadline ≤ frames
  pub few : length cs ≤ 80

-- So are all servers of all levels, from these items up, and every home of an item is one of them.
abbrev pub SoundLevels : ℕ → ℕ → ℕ → List Item → List (List Server) → Type 0
SoundLevels unit frames t items [] = Homed 0 items
SoundLevels unit frames t items (ss ∷ above) =
    Homed (length ss) items
    × ((j : ℕ) → j < length ss → Kept unit frames t (server_at ss j) (clients items j))
    × SoundLevels unit frames t (duals unit ss) above

-- A sound state: so are all levels; every task has a home and a deadline within the run, and together they fill the cores.
pub record Sound (m : Machine) (st : State) : Type 0 where
  pub levels : SoundLevels m.unit m.frames st.tick st.tasks st.levels
  pub housed : Housed st.tasks
  pub fills : item_rates st.tasks ≡ m.cores * m.unit
  pub within : (i : ℕ) → i < length st.tasks → (task st i).deadline ≤ m.frames
  pub a_unit : 1 ≤ m.unit
