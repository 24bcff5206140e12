use Rattle.std.proofs.Common.{◌≡◌, drop}
use Rattle.levels.specs.Renewing.{least_deadline}
use Rattle.run.proofs.renewing.least_deadline.Given as goal

abbrev pub invariant-loop-client : goal.invariant-loop-client
invariant-loop-client l = least_deadline l.best (drop l.client-index l.clients) ≡ least_deadline l.frames l.clients
