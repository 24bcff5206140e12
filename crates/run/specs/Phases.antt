-- Where a task stands, and what an event does to it; only contracts of private functions cite this.
use Rattle.std.specs.Prelude.{ℕ, ◌-◌, ◌*◌, ◌≤◌, Bool, true, false, cond, ◌==◌, nat_lt}
use Rattle.run.specs.declared.task.Event.{Event}
use Rattle.run.specs.declared.task.Event.TheVariants.{Announce, Tick, FrameStart}
use Rattle.run.specs.declared.task.Phase.{Phase}
use Rattle.run.specs.declared.task.Phase.TheVariants.{Served, AtWork, Awaited}
use Rattle.run.specs.declared.task.Task.{Task}

-- A deadline within the longest run.
abbrev pub WithinRun : Event → Type 0
WithinRun (Announce deadline) = deadline ≤ 65535
WithinRun Tick = Unit {0}
WithinRun (FrameStart frame) = Unit {0}

abbrev pub phase_by_left : ℕ → Phase
phase_by_left left = cond (nat_lt 0 left) AtWork Served

-- A task with this left, deadline and phase.
abbrev pub with : Task → ℕ → ℕ → Phase → Task
with t left deadline phase = record { share = record { left = left; rate = t.share.rate; deadline = deadline }; home = t.home; phase = phase }

-- The job from the present deadline to this one; a tick, and the phase after it; the start of a frame.
abbrev pub begun : Task → ℕ → Task
begun t d = let left : ℕ = t.share.rate * (d - t.share.deadline) in with t left d (phase_by_left left)

abbrev pub spent_in : Phase → Task → Task
spent_in phase t = with t (t.share.left - 1) t.share.deadline phase

abbrev pub started : Task → ℕ → Task
started t frame = cond (t.share.deadline == frame) (with t t.share.left t.share.deadline Awaited) t

-- What an event does to a task in each phase.
abbrev pub next_in : Phase → Task → Event → Task
next_in Awaited t (Announce d) = begun t d
next_in Awaited t Tick = spent_in Awaited t
next_in Awaited t (FrameStart frame) = t
next_in AtWork t (Announce d) = t
next_in AtWork t Tick = spent_in (phase_by_left (t.share.left - 1)) t
next_in AtWork t (FrameStart frame) = started t frame
next_in Served t (Announce d) = t
next_in Served t Tick = spent_in Served t
next_in Served t (FrameStart frame) = started t frame

abbrev pub next : Task → Event → Task
next t event = next_in t.phase t event

-- The test that a task is awaited.
abbrev pub is_awaited : Phase → Bool
is_awaited Served = false
is_awaited AtWork = false
is_awaited Awaited = true
