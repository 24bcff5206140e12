use Rattle.std.proofs.Common.{length, take, ap, arith}
use Rattle.packing.proofs.Climbing.{climbed_root, climbed_more}
use Rattle.packing.proofs.plan.Plan.path.Goals as goal

pub returns-in_default : goal.returns-in_default
returns-in_default c =
    let plan = c.args.self.now in
    let levels = c.packed_levels-level-items.ensures.levels in
    climbed_root (take plan.depth plan.levels) c.args.task c.loop-k.k c.loop-k.path c.loop-k.item c.loop-k.invariant
    (omega (arith, ap length levels)) _ (rw levels at c.home.ensures) c.in_default.is

pub loop-k-preserved : goal.loop-k-preserved
loop-k-preserved c =
    let plan = c.args.self.now in
    let levels = c.packed_levels-level-items.ensures in
    rw c.from-item.ensures
    (climbed_more (take plan.depth plan.levels) c.args.task c.loop-k.k c.loop-k.path c.loop-k.item c.loop-k.invariant
    (omega (arith, ap length levels.levels)) _ (rw levels.levels at c.home.ensures) c.in-Some.home c.in-Some.is (omega (arith, levels.few)))
