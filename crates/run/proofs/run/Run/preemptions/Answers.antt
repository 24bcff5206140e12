use Rattle.std.proofs.Common.{refl}
use Rattle.ledger.specs.Calls.{number, preemptions_made}
use Rattle.run.proofs.Steps.{asked_follows}
use Rattle.run.proofs.run.Run.preemptions.Goals as goal

pub returns : goal.returns
returns g c = asked_follows (g.C.Choosing.chosen c.args.self.now.rule) c.args.self.now.state preemptions_made (number c.args.self.now.state.preemptions) refl
