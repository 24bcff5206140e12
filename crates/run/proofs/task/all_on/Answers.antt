use Rattle.std.proofs.Common.{map, arith}
use Rattle.std.proofs.lemmas.List.{get_or-map, length-map}
use Rattle.run.specs.Phases.{next}
use Rattle.run.specs.Views.{blank_task}
use Rattle.run.specs.declared.task.Task.{Task}
use Rattle.run.proofs.Tables.{changed_all}
use Rattle.run.proofs.task.all_on.Goals as goal

pub returns : goal.returns
returns c =
    let f = λ (t : Task). next t c.args.event in
    let old = c.args.tasks.now in
    changed_all blank_task (λ _ t. next t c.args.event) old c.loop-task.tasks (map f old) c.loop-task.task-index (omega arith) c.loop-task.invariant
    (length-map old f) (λ q h. get_or-map f old q blank_task blank_task h)
