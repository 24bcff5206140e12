use Rattle.std.proofs.Common.{◌+◌, ◌*◌, drop, sym, ap, ◌∙◌, arith}
use Rattle.std.proofs.lemmas.List.{at_drop_more, at_drop_all}
use Rattle.sheet.specs.Forms.{value_on}
use Rattle.sheet.proofs.Texts.{few_digits, capped, fits_capped}
use Rattle.sheet.proofs.forms.value.Goals as goal

pub overflow_mul-sum : goal.overflow_mul-sum
overflow_mul-sum c =
    let few = few_digits c.loop-b.sum c.args.digits.now c.loop-b.b-index c.requires.digits c.requires.few c.loop-b-test.true c.loop-b.invariant in
    omega arith

pub overflow_add-sum : goal.overflow_add-sum
overflow_add-sum c =
    let few = few_digits c.loop-b.sum c.args.digits.now c.loop-b.b-index c.requires.digits c.requires.few c.loop-b-test.true c.loop-b.invariant in
    omega (arith, c.from.ensures)

pub loop-b-preserved : goal.loop-b-preserved
loop-b-preserved c =
    let ds = c.args.digits.now in
    let i = c.loop-b.b-index in
    ap (λ d. value_on (c.loop-b.sum * 10 + d) (drop (i + 1) ds)) c.from.ensures
    ∙ sym (at_drop_more (value_on c.loop-b.sum) ds i 0 c.loop-b-test.true)
    ∙ c.loop-b.invariant

pub returns : goal.returns
returns c =
    let done = at_drop_all (value_on c.loop-b.sum) c.args.digits.now c.loop-b.b-index c.loop-b-test.false in
    c.ok.ensures.value ∙ fits_capped _ _ c.try_from.ensures ∙ ap capped (sym done ∙ c.loop-b.invariant)
