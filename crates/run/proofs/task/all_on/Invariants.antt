use Rattle.run.specs.Phases.{next}
use Rattle.run.specs.Views.{blank_task}
use Rattle.run.specs.Changing.{Changed}
use Rattle.run.proofs.task.all_on.Given as goal

abbrev pub invariant-loop-task : goal.invariant-loop-task
invariant-loop-task l = Changed blank_task (λ _ t. next t l.event) l.initial.tasks l.tasks l.task-index
