use Rattle.std.proofs.Common.{Ok, ap, ◌∙◌, rules}
use Rattle.ledger.specs.Calls.{left_of, number}
use Rattle.levels.specs.Running.{task}
use Rattle.run.specs.Runs.{number_told}
use Rattle.run.specs.Views.{view}
use Rattle.run.proofs.Reading.{number_read, share_read}
use Rattle.run.proofs.Steps.{asked_follows}
use Rattle.run.proofs.run.Run.left.Goals as goal

pub returns-in_err-sheet_task : goal.returns-in_err-sheet_task
returns-in_err-sheet_task g c =
    let s = c.args.self.now.state in
    let i = c.args.task in
    asked_follows (g.C.Choosing.chosen c.args.self.now.rule) s (left_of i) (number_told c.from_residual.result)
    (number_read s i (task (view s) i).left c.from_residual.result (search rules))

pub returns : goal.returns
returns g c =
    let s = c.args.self.now.state in
    let i = c.args.task in
    let told = c.in_ok-sheet_task.ensures in
    asked_follows (g.C.Choosing.chosen c.args.self.now.rule) s (left_of i) (number c.in_ok-sheet_task.field-0.now.share.left)
    (number_read s i (task (view s) i).left (Ok c.in_ok-sheet_task.field-0.now.share.left) (told.0, ap (λ t. t.share.left) told.1 ∙ ap (λ x. x.left) (share_read s i told.0)))
