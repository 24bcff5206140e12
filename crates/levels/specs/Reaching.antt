-- The states that a run comes to. A reader of the contracts has to believe this file.
use Rattle.std.specs.Prelude.{◌≡◌, ℕ, ◌*◌, ◌<◌, ◌≤◌, length}
use Rattle.levels.specs.Ticking.{Rules, AllLawful}
use Rattle.levels.specs.Running.{Machine, State, task, announce, step}
use Rattle.levels.specs.Opening.{IsOpening}

-- Task i may be announced with its deadline at frame d: its present deadline is now, and d is later and within the run.
pub record Announces (m : Machine) (st : State) (i d : ℕ) : Type 0 where
  pub one : i < length st.tasks
  pub due : st.tick ≡ m.unit * (task st i).deadline
  pub later : (task st i).deadline < d
  pub within : d ≤ m.frames

-- A tick may follow: the run is not over, and every task whose deadline came has been announced.
pub record Goes (m : Machine) (st : State) : Type 0 where
  pub lasts : st.tick < m.unit * m.frames
  pub announced : (i : ℕ) → i < length st.tasks → st.tick < m.unit * (task st i).deadline

-- The states of a run, with any lawful rules in each tick.
pub data Reached (m : Machine) : State → Type 0 where
  opens : {st : State} → IsOpening m st → Reached m st
  announces : {st : State} → Reached m st → (i d : ℕ) → Announces m st i d → Reached m (announce i d st)
  ticks : {st : State} → Reached m st → Goes m st → (rules : Rules) → AllLawful rules → Reached m (step rules m st)
