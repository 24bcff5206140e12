-- What each refusal of a call says. A reader of the contracts has to believe this file.
use Rattle.std.specs.Prelude.{ℕ, Some, None, Option}
use Rattle.packing.specs.Refusals.{Row}
use Rattle.ledger.specs.Calls.{Answer, refused, refused_for}
use Rattle.run.specs.declared.refusal.Refusal.{Refusal}
use Rattle.run.specs.declared.refusal.Refusal.TheVariants.{RunOver, UnknownTask, NotAwaited, DeadlinePassed, DeadlineBeyondEnd, ShortCoreList, TaskAwaited}

-- Its number, and the task that it names.
abbrev pub row : Refusal → Row
row RunOver = record { number = 11; task = None }
row UnknownTask = record { number = 12; task = None }
row NotAwaited = record { number = 13; task = None }
row DeadlinePassed = record { number = 14; task = None }
row DeadlineBeyondEnd = record { number = 15; task = None }
row ShortCoreList = record { number = 21; task = None }
row (TaskAwaited i) = record { number = 22; task = Some i }

-- The answer that the ledger knows it by.
abbrev pub by_number : ℕ → Option ℕ → Answer
by_number n None = refused n
by_number n (Some i) = refused_for n i

abbrev pub told : Refusal → Answer
told e = by_number (row e).number (row e).task
