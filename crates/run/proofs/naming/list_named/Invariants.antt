use Rattle.std.proofs.Common.{◌≡◌, ◌≤◌, length}
use Rattle.levels.specs.Sums.{passing}
use Rattle.run.specs.Views.{flags}
use Rattle.run.proofs.naming.list_named.Given as goal

abbrev pub invariant-loop-task : goal.invariant-loop-task
invariant-loop-task l = (l.tasks.items ≡ passing 0 l.task (flags l.named)) × (length l.tasks.items ≤ l.task)
