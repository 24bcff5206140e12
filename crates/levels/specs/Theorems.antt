-- The theorems of runs, each carried by the function of its name. A reader of the contracts has to believe this file.
use Rattle.std.specs.Prelude.{◌≡◌, ℕ, zero, suc, ◌+◌, ◌-◌, ◌*◌, ◌<◌, ◌≤◌, Bool, true, List, [], ◌∷◌, length, Some, None}
use Rattle.packing.specs.Packing.{Packing, at_home}
use Rattle.packing.specs.Plan.{IsPlan, FullCores}
use Rattle.packing.specs.Fitting.{Rule as Fitting, Lawful as LawfulFitting}
use Rattle.choosing.specs.Balance.{Balanced}
use Rattle.choosing.specs.Choosing.{Rule, Lawful, GoesOn}
use Rattle.choosing.specs.Rules.{earliest_deadline}
use Rattle.levels.specs.declared.item.Item.{Item}
use Rattle.levels.specs.declared.server.Server.{Server}
use Rattle.levels.specs.Sums.{sum_to, bit, count}
use Rattle.levels.specs.Items.{item_at, server_at, clients, level_at, packed}
use Rattle.levels.specs.Ticking.{Rules, AllLawful, next_level, server_runs, named, duals_named}
use Rattle.levels.specs.Running.{Machine, State, task, ready, runs}
use Rattle.levels.specs.Opening.{opening, IsOpening}
use Rattle.levels.specs.Reaching.{Goes, Reached}
use Rattle.levels.specs.Soundness.{Sound}
use Rattle.levels.specs.Serving.{Served}
use Rattle.levels.specs.Counting.{Counted}
use Rattle.levels.specs.Worked.{two_cores, three_announced, tasks_run, after_ticks, three_second, lefts}

-- ---- who is named

-- How many of the items before place i have home q.
abbrev pub earlier : ℕ → List Item → ℕ → ℕ
earlier q [] i = 0
earlier q (x ∷ xs) zero = 0
earlier q (x ∷ xs) (suc i) = bit (at_home x.home q) + earlier q xs i

-- Item i is chosen: it has a home, its home runs, and the rule of its home names it, by its place among the clients.
pub record Chosen (rules : Rules) (unit : ℕ) (items : List Item) (ss : List Server) (above : List (List Server)) (i : ℕ) : Type 0 where
  pub home : ℕ
  pub home_is : (item_at items i).home ≡ Some home
  pub runs : server_runs ss (duals_named rules unit ss above) home ≡ true
  pub names : rules 0 home (server_at ss home).share (clients items home) ≡ Some (earlier home items i)

-- An item is named exactly if it is chosen.
abbrev pub NamedIsChosen : Type 0
NamedIsChosen =
    (rules : Rules) (unit : ℕ) (items : List Item) (ss : List Server) (above : List (List Server)) (i : ℕ)
    → (named rules unit items (ss ∷ above) i ≡ true → Chosen rules unit items ss above i)
    × (Chosen rules unit items ss above i → named rules unit items (ss ∷ above) i ≡ true)

-- A root runs in every tick: its dual has no home, and is never named.
abbrev pub EveryRootRuns : Type 0
EveryRootRuns =
    (rules : Rules) (unit : ℕ) (ss : List Server) (above : List (List Server)) (j : ℕ)
    → j < length ss → (server_at ss j).home ≡ None → server_runs ss (duals_named rules unit ss above) j ≡ true

-- ---- openings

-- The plan that any lawful fitting rule makes of at most 80 tasks that fill the cores opens a run.
abbrev pub EveryPlanOpens : Type 0
EveryPlanOpens =
    (fit : Fitting) → LawfulFitting fit
    → (m : Machine) (tasks : List ℕ) → FullCores m.unit m.cores tasks → length tasks ≤ 80
    → (plan : List Packing) → IsPlan fit m.unit tasks plan → IsOpening m (opening tasks plan)

-- ---- every state of a run

-- Every state of a run is sound.
abbrev pub EveryStateIsSound : Type 0
EveryStateIsSound = (m : Machine) (st : State) → Reached m st → Sound m st

-- Whenever rules are asked, after the renewal, each server j of each level k and its clients are balanced.
abbrev pub RulesAreAskedInBalance : Type 0
RulesAreAskedInBalance =
    (m : Machine) (st : State) → Reached m st → Goes m st
    → (k j : ℕ) → j < length (level_at (ready m st) k)
    → Balanced (server_at (level_at (ready m st) k) j).share (clients (packed m.unit st.tasks (ready m st) k) j)

-- In each tick as many tasks run as there are cores, and each of them has left.
abbrev pub EveryTickIsFull : Type 0
EveryTickIsFull =
    (m : Machine) (st : State) → Reached m st → Goes m st → (rules : Rules) → AllLawful rules
    → (count (length st.tasks) (runs rules m st) ≡ m.cores) × ((i : ℕ) → runs rules m st i ≡ true → 1 ≤ (task st i).left)

-- In each level as many servers run as their rates fill units, and each of them has left.
abbrev pub FullLevels : Rules → ℕ → List (List Server) → Type 0
FullLevels rules unit [] = Unit {0}
FullLevels rules unit (ss ∷ above) =
    ((j : ℕ) → server_runs ss (duals_named rules unit ss above) j ≡ true → 1 ≤ (server_at ss j).share.left)
    × (count (length ss) (server_runs ss (duals_named rules unit ss above)) * unit ≡ sum_to (length ss) (λ j. (server_at ss j).share.rate))
    × FullLevels (next_level rules) unit above

abbrev pub EveryLevelIsFull : Type 0
EveryLevelIsFull =
    (m : Machine) (st : State) → Reached m st → Goes m st → (rules : Rules) → AllLawful rules → FullLevels rules m.unit (ready m st)

-- When the deadline of a task comes, nothing is left of its job.
abbrev pub NoDeadlineIsMissed : Type 0
NoDeadlineIsMissed =
    (m : Machine) (st : State) → Reached m st
    → (i : ℕ) → i < length st.tasks → st.tick ≡ m.unit * (task st i).deadline → (task st i).left ≡ 0

-- What a task has run since its present job began, and what is left of that job, are its rate for each frame of the job; so
-- when its deadline comes, it has run just so often.
abbrev pub EveryJobIsServed : Type 0
EveryJobIsServed =
    (m : Machine) (st : State) (begun held : ℕ → ℕ) → Served m st begun held
    → (i : ℕ) → i < length st.tasks
    → (held i + (task st i).left ≡ (task st i).rate * ((task st i).deadline - begun i))
    × (st.tick ≡ m.unit * (task st i).deadline → held i ≡ (task st i).rate * ((task st i).deadline - begun i))

-- Under a rule that goes on with the client it named there are at most 2 × reductions + 1 preemptions for each job.
-- The reductions are the levels less one.
abbrev pub PreemptionsAreFew : Type 0
PreemptionsAreFew =
    (rule : Rule) → Lawful rule → GoesOn rule → (m : Machine) (st : State) (before : ℕ → Bool) (jobs preemptions : ℕ)
    → Counted rule m st before jobs preemptions → preemptions ≤ (2 * (length st.levels - 1) + 1) * jobs

-- ---- a run there is

-- The three tasks on two cores: under earliest deadline these run in the first frame and, after the second job of task 0 is
-- announced, in the second; and at the end of the run none has left.
abbrev pub RunsThereAre : Type 0
RunsThereAre =
    (Reached two_cores three_announced × Goes two_cores three_announced)
    × (tasks_run earliest_deadline two_cores 3 three_announced ≡ (1 ∷ 2 ∷ []) ∷ (0 ∷ 2 ∷ []) ∷ (0 ∷ 2 ∷ []) ∷ [])
    × (Reached two_cores three_second × Goes two_cores three_second)
    × (tasks_run earliest_deadline two_cores 3 three_second ≡ (1 ∷ 2 ∷ []) ∷ (0 ∷ 1 ∷ []) ∷ (0 ∷ 1 ∷ []) ∷ [])
    × (lefts (after_ticks earliest_deadline two_cores 3 three_second) ≡ 0 ∷ 0 ∷ 0 ∷ [])
