use Rattle.std.proofs.Common.{◌≡◌, length, take}
use Rattle.levels.specs.Renewing.{renew_servers}
use Rattle.run.specs.Levels.{items_of, servers_of}
use Rattle.run.proofs.renewing.renewed_servers.Given as goal

abbrev pub invariant-loop-place : goal.invariant-loop-place
invariant-loop-place l =
    (l.servers.items ≡ take l.place (renew_servers l.level.state.now.unit l.level.state.now.frames l.frame (items_of l.level) 0 (servers_of l.level))) × (length l.servers.items ≡ l.place)
