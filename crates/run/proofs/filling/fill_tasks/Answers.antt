use Rattle.std.proofs.Common.{◌≡◌, get_or, None, ap, ◌∙◌, arith}
use Rattle.packing.specs.Tables.{levels_in}
use Rattle.levels.specs.Opening.{homes_in}
use Rattle.run.specs.Opened.{rates_in, unbegun_task}
use Rattle.run.proofs.Written.{each_more}
use Rattle.run.proofs.filling.fill_tasks.Goals as goal

pub loop-i-preserved : goal.loop-i-preserved
loop-i-preserved c =
    let rates = rates_in c.args.plan.now in
    let homes = homes_in (levels_in c.args.plan.now) in
    let read = c.task_rates-rate-items in
    let i = c.loop-i.i in
    let made : c.unbegun_task.result ≡ unbegun_task (get_or read.result.now i 0) (get_or homes i None) =
    c.unbegun_task.ensures ∙ ap (unbegun_task _) c.home_in.ensures in
    each_more unbegun_task rates homes c.args.tasks.now c.loop-i.tasks i c.unbegun_task.result
    (rw read.ensures.rates at made) (rw read.ensures.rates at c.loop-i-test.true) (omega arith) c.loop-i.invariant
