use Rattle.std.proofs.Common.{◌≡◌, map, length, take}
use Rattle.packing.specs.Tables.{levels_in}
use Rattle.levels.specs.Opening.{servers_in}
use Rattle.run.specs.Views.{level_servers}
use Rattle.run.proofs.filling.fill_levels.Given as goal

abbrev pub invariant-loop-k : goal.invariant-loop-k
invariant-loop-k l = (map level_servers l.levels.items ≡ take l.k (servers_in (levels_in l.plan))) × (length l.levels.items ≡ l.k)
