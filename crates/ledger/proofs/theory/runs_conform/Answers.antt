use Rattle.ledger.proofs.Conforming.{runs_conform}
use Rattle.ledger.proofs.theory.runs_conform.Goals as goal

pub returns : goal.returns
returns g c = runs_conform _ (g.met.F.Fitting.lawful c.args.fit.now) _ (g.met.C.Choosing.lawful c.args.choose.now)
