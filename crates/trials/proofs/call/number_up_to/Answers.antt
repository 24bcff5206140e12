use Rattle.std.proofs.Common.{◌≡◌, ◌<◌, None, arith, rules}
use Rattle.trials.specs.Reading.{ReadsUpTo}
use Rattle.trials.proofs.Numbers.{above_is_none, up_to}
use Rattle.trials.proofs.call.number_up_to.Goals as goal

pub returns-in_err-number-2 : goal.returns-in_err-number-2
returns-in_err-number-2 c =
    let is : c.from_residual-in_err-number-2.result ≡ None = search rules in
    let high : 65535 < c.in_ok-number.field-0 = search rules in
    let told : ReadsUpTo c.args.most c.args.field.now None =
    above_is_none c.args.field.now c.in_ok-number.field-0 c.args.most c.in_ok-number.ensures (omega (arith, c.ranges.most.fits)) (omega (arith, c.ranges.most.fits)) in
    rw is told

pub returns : goal.returns
returns c =
    let same : c.in_ok-number-2.number ≡ c.in_ok-number.field-0 = search rules in
    let told = up_to c.args.field.now c.in_ok-number.field-0 c.args.most c.in_ok-number.ensures (omega (arith, c.ranges.most.fits)) in
    rw (c.then_some.ensures, same) told
