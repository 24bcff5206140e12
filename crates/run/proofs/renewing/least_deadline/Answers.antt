use Rattle.std.proofs.Common.{◌≡◌, sym, ◌∙◌, arith}
use Rattle.levels.specs.Renewing.{least_deadline}
use Rattle.run.proofs.Renewals.{least_all, least_at_most, least_more}
use Rattle.run.proofs.renewing.least_deadline.Goals as goal

pub loop-client-preserved : goal.loop-client-preserved
loop-client-preserved c =
    let more = least_more c.loop-client.best c.args.clients.now c.loop-client.client-index (omega arith) in
    let best = c.min-best.ensures in
    cc

pub returns : goal.returns
returns c =
    let clients = c.args.clients.now in
    let least : c.loop-client.best ≡ least_deadline c.args.frames clients = sym (least_all c.loop-client.best clients c.loop-client.client-index (omega arith)) ∙ c.loop-client.invariant in
    record { least = least; most = omega (arith, least, least_at_most c.args.frames clients) }
