-- Histories worked out: two that the scheduler gives, wrong ones, and one against the rule. A reader of the theorems about them has to believe this file.
use Rattle.std.specs.Prelude.{ℕ, true, false, List, [], ◌∷◌, ◌++◌, map, Some}
use Rattle.packing.specs.Rules.{first_fit}
use Rattle.choosing.specs.Rules.{earliest_deadline}
use Rattle.levels.specs.Worked.{three_rates, three_plan}
use Rattle.ledger.specs.Openings.{Opening}
use Rattle.ledger.specs.Calls.{left_of, deadline_of, is_awaited, jobs_begun, preemptions_made, present_tick, reductions_made, Call, announce, tick, ask, Answer, refused, refused_for, done, named, number, truth, Entry, History}
use Rattle.ledger.specs.Ledger.{Job, Ledger}

-- ---- the openings: first fit and earliest deadline

-- Three loops of 2 parts of 3 on two cores, for two frames. No two of them fit together, and their duals fill one root.
abbrev pub three_loops : Opening
three_loops = record {
  cores = 2;
  unit = 3;
  frames = 2;
  sheet = three_rates;
  fit = first_fit;
  choose = earliest_deadline;
  plan = three_plan;
}

-- One loop of 1 part of 2 on one core, for one frame: the rest is for an idle task, number 1.
abbrev pub one_loop : Opening
one_loop = record {
  cores = 1;
  unit = 2;
  frames = 1;
  sheet = 1 ∷ [];
  fit = first_fit;
  choose = earliest_deadline;
  plan = record { homes = Some 0 ∷ Some 0 ∷ []; rates = 2 ∷ [] } ∷ [];
}

-- ---- what the scheduler gives

-- A call and its answer; the calls of a history.
abbrev pub entry : Call → Answer → Entry
entry call answer = record { call = call; answer = answer }

abbrev pub calls_of : History → List Call
calls_of entries = map (λ e. e.call) entries

-- Up to the end and past it. Every refusal and every question occurs.
abbrev pub worked : History
worked =
    entry (tick 2) (refused_for 22 0)
    ∷ entry (ask (is_awaited 0)) (truth true)
    ∷ entry (announce 0 0) (refused 14)
    ∷ entry (announce 0 3) (refused 15)
    ∷ entry (announce 3 1) (refused 12)
    ∷ entry (announce 0 1) done
    ∷ entry (announce 0 2) (refused 13)
    ∷ entry (tick 2) (refused_for 22 1)
    ∷ entry (announce 1 2) done
    ∷ entry (announce 2 2) done
    ∷ entry (ask (left_of 1)) (number 4)
    ∷ entry (ask (deadline_of 1)) (number 2)
    ∷ entry (ask (left_of 3)) (refused 12)
    ∷ entry (ask (deadline_of 3)) (refused 12)
    ∷ entry (ask (is_awaited 3)) (refused 12)
    ∷ entry (tick 1) (refused 21)
    ∷ entry (tick 2) (named (1 ∷ 2 ∷ []))
    ∷ entry (tick 2) (named (0 ∷ 2 ∷ []))
    ∷ entry (ask preemptions_made) (number 1)
    ∷ entry (tick 3) (named (0 ∷ 2 ∷ []))
    ∷ entry (ask present_tick) (number 3)
    ∷ entry (ask (left_of 0)) (number 0)
    ∷ entry (ask (is_awaited 0)) (truth true)
    ∷ entry (ask (is_awaited 1)) (truth false)
    ∷ entry (tick 1) (refused 21)
    ∷ entry (tick 2) (refused_for 22 0)
    ∷ entry (announce 0 1) (refused 14)
    ∷ entry (announce 0 2) done
    ∷ entry (ask jobs_begun) (number 4)
    ∷ entry (tick 2) (named (1 ∷ 2 ∷ []))
    ∷ entry (tick 2) (named (0 ∷ 1 ∷ []))
    ∷ entry (tick 2) (named (0 ∷ 1 ∷ []))
    ∷ entry (ask (left_of 0)) (number 0)
    ∷ entry (ask (is_awaited 0)) (truth false)
    ∷ entry (tick 0) (refused 11)
    ∷ entry (announce 9 0) (refused 11)
    ∷ entry (ask present_tick) (number 6)
    ∷ entry (ask reductions_made) (number 1)
    ∷ entry (ask preemptions_made) (number 1)
    ∷ []

-- What the ledger has of it in the end: task 0 had two jobs, each of the others one, and task 1 was preempted once.
abbrev pub job : ℕ → ℕ → ℕ → List ℕ → Job
job task release deadline held = record { task = task; release = release; deadline = deadline; held = held }

abbrev pub worked_ledger : Ledger
worked_ledger = record {
  time = 6;
  jobs = job 0 0 1 (1 ∷ 2 ∷ []) ∷ job 1 0 2 (0 ∷ 3 ∷ 4 ∷ 5 ∷ []) ∷ job 2 0 2 (0 ∷ 1 ∷ 2 ∷ 3 ∷ []) ∷ job 0 1 2 (4 ∷ 5 ∷ []) ∷ [];
  unfinished = [];
  preemptions = 1;
}

-- The idle task has its job from the opening on. It is not on the sheet: it is neither announced nor asked about.
abbrev pub worked_idle : History
worked_idle =
    entry (ask jobs_begun) (number 1)
    ∷ entry (announce 1 1) (refused 12)
    ∷ entry (ask (left_of 1)) (refused 12)
    ∷ entry (announce 0 1) done
    ∷ entry (tick 1) (named (0 ∷ []))
    ∷ entry (tick 1) (named (1 ∷ []))
    ∷ entry (tick 1) (refused 11)
    ∷ entry (ask jobs_begun) (number 2)
    ∷ entry (ask preemptions_made) (number 0)
    ∷ entry (ask reductions_made) (number 0)
    ∷ []

abbrev pub worked_idle_ledger : Ledger
worked_idle_ledger = record { time = 2; jobs = job 1 0 1 (1 ∷ []) ∷ job 0 0 1 (0 ∷ []) ∷ []; unfinished = []; preemptions = 0 }

-- ---- wrong histories of the three loops

-- The first jobs: task 0 for one frame, the others for two.
abbrev pub started : History
started = entry (announce 0 1) done ∷ entry (announce 1 2) done ∷ entry (announce 2 2) done ∷ []

-- Task 0 is not held up to its deadline. All else is in order: each tick names two tasks with left.
abbrev pub missed_deadline : History
missed_deadline = started ++ entry (tick 2) (named (1 ∷ 2 ∷ [])) ∷ entry (tick 2) (named (1 ∷ 2 ∷ [])) ∷ entry (tick 2) (named (1 ∷ 2 ∷ [])) ∷ []

-- One core is left idle.
abbrev pub idle_core : History
idle_core = started ++ entry (tick 2) (named (1 ∷ [])) ∷ []

-- A task is on two cores at once.
abbrev pub on_two_cores : History
on_two_cores = started ++ entry (tick 2) (named (1 ∷ 1 ∷ [])) ∷ []

-- Task 0 has had its share of the first frame, and is named for one tick more.
abbrev pub past_its_share : History
past_its_share = started ++ entry (tick 2) (named (0 ∷ 1 ∷ [])) ∷ entry (tick 2) (named (0 ∷ 1 ∷ [])) ∷ entry (tick 2) (named (0 ∷ 2 ∷ [])) ∷ []

-- A tick is granted although task 1 is awaited.
abbrev pub granted_too_soon : History
granted_too_soon = entry (announce 0 1) done ∷ entry (tick 2) (named (0 ∷ 1 ∷ [])) ∷ []

-- A tick is refused although nothing stands against it.
abbrev pub refused_without_need : History
refused_without_need = started ++ entry (tick 2) (refused_for 22 0) ∷ []

-- Task 1 was preempted, and that is not counted.
abbrev pub preemption_not_counted : History
preemption_not_counted = started ++ entry (tick 2) (named (1 ∷ 2 ∷ [])) ∷ entry (tick 2) (named (0 ∷ 2 ∷ [])) ∷ entry (ask preemptions_made) (number 0) ∷ []

-- What is left of task 1 is off by one.
abbrev pub left_off_by_one : History
left_off_by_one = started ++ entry (tick 2) (named (1 ∷ 2 ∷ [])) ∷ entry (ask (left_of 1)) (number 4) ∷ []

-- An announcement is granted and not stored.
abbrev pub not_stored : History
not_stored = entry (announce 0 1) done ∷ entry (ask (deadline_of 0)) (number 0) ∷ []

-- The time stands still.
abbrev pub time_stands : History
time_stands = started ++ entry (tick 2) (named (1 ∷ 2 ∷ [])) ∷ entry (ask present_tick) (number 0) ∷ []

-- ---- a history against the rule

-- The idle task goes first, although earliest deadline names the loop.
abbrev pub against_the_rule : History
against_the_rule = entry (announce 0 1) done ∷ entry (tick 1) (named (1 ∷ [])) ∷ entry (tick 1) (named (0 ∷ [])) ∷ []
