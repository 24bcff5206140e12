use Rattle.std.proofs.Common.{refl}
use Rattle.ledger.specs.Calls.{number, present_tick}
use Rattle.run.proofs.Steps.{asked_follows}
use Rattle.run.proofs.run.Run.present_tick.Goals as goal

pub returns : goal.returns
returns g c = asked_follows (g.C.Choosing.chosen c.args.self.now.rule) c.args.self.now.state present_tick (number c.args.self.now.state.tick) refl
