use Rattle.std.proofs.Common.{refl}
use Rattle.ledger.specs.Calls.{number, jobs_begun}
use Rattle.run.proofs.Steps.{asked_follows}
use Rattle.run.proofs.run.Run.jobs.Goals as goal

pub returns : goal.returns
returns g c = asked_follows (g.C.Choosing.chosen c.args.self.now.rule) c.args.self.now.state jobs_begun (number c.args.self.now.state.jobs) refl
