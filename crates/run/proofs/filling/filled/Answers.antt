use Rattle.std.proofs.Common.{◌≡◌, ◌≤◌, length, ap, arith}
use Rattle.run.specs.Opened.{begun_to, rates_in}
use Rattle.run.proofs.Opened.{filled_tables, tasks_filled}
use Rattle.run.proofs.Written.{over_changed}
use Rattle.run.proofs.filling.filled.Goals as goal

pub returns : goal.returns
returns c =
    let plan = c.args.plan.now in
    let n = length c.task_rates-count.result.now in
    let counted : n ≡ length (rates_in plan) = ap length c.task_rates-count.ensures.rates in
    let first = c.fill_tasks.new.tasks in
    let low : c.args.sheet ≤ n = omega (arith, c.requires.sheet_tasks, counted) in
    let begun = over_changed (begun_to c.args.frames) first c.all_on.new.tasks c.args.sheet n low (omega arith) c.all_on.ensures in
    filled_tables plan c.args.cores c.args.frames c.args.sheet c.requires n counted
    c.fill_levels.new.levels c.fill_levels.ensures c.new-2.result c.new-2.ensures _ _ _ _ c.from.result _ _ c.new.result
    c.from.ensures
    (tasks_filled plan c.args.cores c.args.frames c.args.sheet c.requires n counted first _ c.fill_tasks.ensures begun)
    c.new.ensures.blank
