use Rattle.packing.specs.Tables.{levels_in}
use Rattle.packing.proofs.Climbing.{Climbed}
use Rattle.packing.proofs.plan.Plan.path.Given as goal

abbrev pub invariant-loop-k : goal.invariant-loop-k
invariant-loop-k l = Climbed (levels_in l.self) l.task l.k l.path l.item
