use Rattle.std.proofs.Common.{◌≡◌, ◌≤◌, length, take}
use Rattle.cores.specs.Counting.{preemptions}
use Rattle.cores.proofs.count.preempted.Given as goal

abbrev pub invariant-loop-task : goal.invariant-loop-task
invariant-loop-task l = (l.count ≤ l.task-index) × (l.next ≤ length l.named) × (l.count ≡ preemptions (take l.task-index l.unfinished) l.named)
