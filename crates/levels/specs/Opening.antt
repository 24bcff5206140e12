-- The state at the opening of a run, over the plan of its tasks. A reader of the contracts has to believe this file.
use Rattle.std.specs.Prelude.{◌≡◌, ℕ, ◌*◌, ◌<◌, ◌≤◌, List, [], ◌∷◌, length, drop, Some, None, Option, slice_index_or}
use Rattle.packing.specs.Packing.{Packing, Within}
use Rattle.choosing.specs.declared.share.Share.{Share}
use Rattle.choosing.specs.Balance.{rates}
use Rattle.levels.specs.declared.item.Item.{Item}
use Rattle.levels.specs.declared.server.Server.{Server}
use Rattle.levels.specs.Items.{item_at, server_at, clients, duals, Homed, item_rates}
use Rattle.levels.specs.Running.{Machine, State, task}

-- ---- the state over a plan

-- A share before any job.
abbrev pub unbegun : ℕ → Share
unbegun rate = record { left = 0; rate = rate; deadline = 0 }

-- Items of these rates with these homes, and servers of these rates whose duals have these homes.
abbrev pub items_of : List ℕ → List (Option ℕ) → List Item
items_of [] homes = []
items_of (rate ∷ rest) homes = record { share = unbegun rate; home = slice_index_or homes 0 None } ∷ items_of rest (drop 1 homes)

abbrev pub servers_of : List ℕ → List (Option ℕ) → List Server
servers_of [] homes = []
servers_of (rate ∷ rest) homes = record { share = unbegun rate; dual = 0; home = slice_index_or homes 0 None } ∷ servers_of rest (drop 1 homes)

-- The homes of the items of the lowest level of a plan; where there is no level, nothing has a home.
abbrev pub homes_in : List Packing → List (Option ℕ)
homes_in [] = []
homes_in (l ∷ above) = l.homes

-- The servers of each level of a plan. Their duals have the homes that the next level gives its items.
abbrev pub servers_in : List Packing → List (List Server)
servers_in [] = []
servers_in (l ∷ above) = servers_of l.rates (homes_in above) ∷ servers_in above

-- The opening of tasks of these rates, over their plan.
abbrev pub opening : List ℕ → List Packing → State
opening tasks plan = record { tick = 0; tasks = items_of tasks (homes_in plan); levels = servers_in plan }

-- ---- what the theorems ask of an opening

-- The rate of a server is from 1 to the unit, and it is a root exactly if its rate is the unit.
pub record WellRated (unit rate : ℕ) (home : Option ℕ) : Type 0 where
  pub within : Within unit rate
  pub root : home ≡ None → rate ≡ unit
  pub full : rate ≡ unit → home ≡ None

-- A server before any job: its rate is the sum of its clients' rates.
pub record Planned (unit : ℕ) (s : Server) (cs : List Share) : Type 0 where
  pub rated : rates cs ≡ s.share.rate
  pub well_rated : WellRated unit s.share.rate s.home
  pub unspent : (s.share.left ≡ 0) × (s.share.deadline ≡ 0) × (s.dual ≡ 0)

-- So are all servers of all levels, and every home of an item is one of them; above the top no item has a home.
abbrev pub PlannedLevels : ℕ → List Item → List (List Server) → Type 0
PlannedLevels unit items [] = Homed 0 items
PlannedLevels unit items (ss ∷ above) =
    Homed (length ss) items
    × ((j : ℕ) → j < length ss → Planned unit (server_at ss j) (clients items j))
    × PlannedLevels unit (duals unit ss) above

-- Every task has a home.
abbrev pub Housed : List Item → Type 0
Housed tasks = (i : ℕ) → i < length tasks → (h : ℕ) × ((item_at tasks i).home ≡ Some h)

-- No level has more than 31 servers.
abbrev pub FewServers : List (List Server) → Type 0
FewServers [] = Unit {0}
FewServers (ss ∷ above) = (length ss ≤ 31) × FewServers above

-- A state that can open a run: nothing has begun, at most 80 tasks fill the cores, and all is planned.
pub record IsOpening (m : Machine) (st : State) : Type 0 where
  pub now : st.tick ≡ 0
  pub planned : PlannedLevels m.unit st.tasks st.levels
  pub housed : Housed st.tasks
  pub unbegun_tasks : (i : ℕ) → i < length st.tasks → ((task st i).left ≡ 0) × ((task st i).deadline ≡ 0)
  pub fills : item_rates st.tasks ≡ m.cores * m.unit
  pub a_unit : 1 ≤ m.unit
  pub few : length st.tasks ≤ 80
  pub few_servers : FewServers st.levels
