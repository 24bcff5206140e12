use Rattle.std.proofs.Common.{◌≡◌, take, fold}
use Rattle.cores.specs.Placing.{tables, claims}
use Rattle.cores.proofs.place.Cores.come_back.Given as goal

abbrev pub invariant-loop-task : goal.invariant-loop-task
invariant-loop-task l =
    l.self ≡ tables l.initial.self.last (fold (claims l.initial.self.last l.cores) l.initial.self.held (take l.task-index l.named))
