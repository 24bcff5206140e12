use Rattle.std.proofs.Common.{◌≡◌, ◌++◌, replicate}
use Rattle.packing.proofs.load.Load.all_tasks.Given as goal

abbrev pub invariant-loop : goal.invariant-loop
invariant-loop l = l.tasks.items ≡ l.self.rates.now ++ replicate l.counter l.self.unit
