use Rattle.std.proofs.Common.{◌≡◌, take}
use Rattle.packing.specs.Plan.{duals}
use Rattle.packing.specs.Tables.{packing_in}
use Rattle.packing.proofs.level.Level.duals.Given as goal

abbrev pub invariant-loop-rate : goal.invariant-loop-rate
invariant-loop-rate l = l.duals.items ≡ duals l.unit (take l.rate-index (packing_in l.self).rates)
