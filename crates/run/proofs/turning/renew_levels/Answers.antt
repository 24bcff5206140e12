use Rattle.std.proofs.Common.{arith}
use Rattle.run.proofs.Rising.{rising_none, rising_more, rising_all}
use Rattle.run.proofs.turning.renew_levels.Goals as goal

pub loop-level-init : goal.loop-level-init
loop-level-init c = rising_none c.args.state.now c.args.frame

pub renew_level-requires : goal.renew_level-requires
renew_level-requires c = omega (arith, c.loop-level.invariant.size)

pub loop-level-preserved : goal.loop-level-preserved
loop-level-preserved c =
    rising_more c.args.state.now c.args.frame c.loop-level.state c.renew_level.new.state c.loop-level.level (omega (arith, c.loop-level.invariant.size)) c.loop-level.invariant c.renew_level.ensures

pub returns : goal.returns
returns c = record {
  levels = rising_all c.args.state.now c.args.frame c.loop-level.state c.loop-level.level (omega (arith, c.loop-level.invariant.size)) c.loop-level.invariant;
  kept = c.loop-level.invariant.kept;
}
