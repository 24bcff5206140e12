use Rattle.std.proofs.Common.{arith}
use Rattle.choosing.specs.declared.share.Share.{Share}
use Rattle.choosing.specs.Rules.{slack}
use Rattle.choosing.specs.Slacks.{Small, spare_fits, spare_kept}
use Rattle.choosing.proofs.rules.slack_of.Goals as goal

abbrev Known : Share → Share → Type 0
Known s c = Small s.left s.rate c.deadline s.deadline c.left

pub overflow_sub-result : goal.overflow_sub-result
overflow_sub-result c =
    let b : Known c.args.server c.args.client = omega arith in
    rw (c.from.ensures, c.from-2.ensures, c.from-3.ensures, c.from-4.ensures, c.from-5.ensures) (spare_fits _ _ _ _ _ b)

pub returns : goal.returns
unfolding slack
returns c =
    let b : Known c.args.server c.args.client = omega arith in
    rw (c.from.ensures, c.from-2.ensures, c.from-3.ensures, c.from-4.ensures, c.from-5.ensures) (spare_kept _ _ _ _ _ b)
