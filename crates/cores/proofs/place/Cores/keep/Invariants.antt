use Rattle.std.proofs.Common.{◌≡◌, take, fold, replicate, None}
use Rattle.cores.specs.Placing.{tables, keeps}
use Rattle.cores.proofs.place.Cores.keep.Given as goal

abbrev pub invariant-loop-task : goal.invariant-loop-task
invariant-loop-task l = l.self ≡ tables l.before.last (fold (keeps l.before l.cores) (replicate 16 None) (take l.task-index l.named))
