use Rattle.std.proofs.Common.{arith}
use Rattle.run.proofs.Unfinished.{preempted_few}
use Rattle.run.proofs.counting.preempted_of.Goals as goal

pub returns-clause-few : goal.returns-clause-few
returns-clause-few c = omega (arith, c.preempted.ensures, preempted_few c.deref.result.now c.deref-2.result.now, c.deref.ensures.1)
