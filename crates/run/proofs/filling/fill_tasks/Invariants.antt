use Rattle.std.proofs.Common.{◌≡◌, take}
use Rattle.packing.specs.Tables.{over, levels_in}
use Rattle.levels.specs.Opening.{homes_in}
use Rattle.run.specs.Opened.{each, rates_in, unbegun_task}
use Rattle.run.proofs.filling.fill_tasks.Given as goal

abbrev pub invariant-loop-i : goal.invariant-loop-i
invariant-loop-i l = l.tasks ≡ over (each unbegun_task (take l.i (rates_in l.plan)) (homes_in (levels_in l.plan))) l.initial.tasks
