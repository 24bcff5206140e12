use Rattle.std.proofs.Common.{◌≡◌, ◌++◌, take, drop}
use Rattle.cores.specs.Placing.{written}
use Rattle.cores.proofs.place.Cores.write.Given as goal

abbrev pub invariant-loop-core : goal.invariant-loop-core
invariant-loop-core l = take l.core l.list ++ written (drop l.core l.self.held) (drop l.core l.list) ≡ written l.self.held l.initial.list
