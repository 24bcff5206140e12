use Rattle.std.proofs.Common.{◌≡◌, take, fold}
use Rattle.cores.specs.Placing.{settles}
use Rattle.cores.proofs.place.Cores.settle_rest.Given as goal

abbrev pub invariant-loop-task : goal.invariant-loop-task
invariant-loop-task l = l.self ≡ fold (settles l.cores) l.initial.self (take l.task-index l.named)
