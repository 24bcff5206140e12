use Rattle.std.proofs.Common.{◌≡◌, length, take, drop}
use Rattle.packing.specs.Tables.{levels_in}
use Rattle.levels.specs.Opening.{homes_in}
use Rattle.run.specs.Opened.{each, unbegun_server}
use Rattle.run.proofs.filling.servers_of.Given as goal

abbrev pub invariant-loop-j : goal.invariant-loop-j
invariant-loop-j l = (l.servers.items ≡ each unbegun_server (take l.j l.rates) (homes_in (drop l.above (levels_in l.plan)))) × (length l.servers.items ≡ l.j)
