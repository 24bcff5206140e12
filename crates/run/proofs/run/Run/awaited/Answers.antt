use Rattle.ledger.specs.Answering.{awaited}
use Rattle.ledger.specs.Calls.{is_awaited}
use Rattle.run.specs.Runs.{figures_of, truth_told}
use Rattle.run.proofs.Reading.{truth_read}
use Rattle.run.proofs.Steps.{asked_follows}
use Rattle.run.proofs.run.Run.awaited.Goals as goal

pub returns : goal.returns
returns g c =
    let s = c.args.self.now.state in
    asked_follows (g.C.Choosing.chosen c.args.self.now.rule) s (is_awaited c.args.task) (truth_told c.awaits.result)
    (truth_read s c.args.task (awaited (figures_of s) c.args.task) c.awaits.result c.awaits.ensures)
