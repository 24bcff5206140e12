use Rattle.std.proofs.Common.{None}
use Rattle.choices.proofs.Kept.{stays_balanced}
use Rattle.choices.proofs.give_tick.Goals as goal

pub returns-in_err-named-clause-balance : goal.returns-in_err-named-clause-balance
returns-in_err-named-clause-balance g c =
    let rule = c.args.rule.now in
    rw c.from_residual.ensures
    (stays_balanced (g.C.Choosing.chosen rule) (g.met.C.Choosing.lawful rule) c.args.server.now c.args.clients.now None c.in_err-named.ensures)
