use Rattle.run.specs.Changing.{Changed}
use Rattle.run.specs.Turns.{tick_if}
use Rattle.run.specs.Views.{flags, blank_task}
use Rattle.run.proofs.spending.tick_named.Given as goal

abbrev pub invariant-loop-i : goal.invariant-loop-i
invariant-loop-i l = Changed blank_task (λ q t. tick_if (flags l.named q) t) l.initial.tasks l.tasks l.i
