use Rattle.std.proofs.Common.{◌++◌, ◌∷◌, [], map, get_or, length-set, sym, ap, ◌∙◌, arith}
use Rattle.std.proofs.lemmas.List.{map_more, take_all, take_more_set}
use Rattle.sheet.specs.Reading.{blank}
use Rattle.sheet.proofs.table.rates.Goals as goal

pub loop-i-preserved : goal.loop-i-preserved
loop-i-preserved c =
    let table = c.args.table.now in
    let i = c.loop-i.i in
    let rate = (get_or table i blank).rate in
    let done = c.loop-i.invariant in (
      take_more_set c.loop-i.rates i rate (omega arith) ∙ ap (λ rates. rates ++ rate ∷ []) done.0
          ∙ sym (map_more (λ e. e.rate) table i blank (omega arith)),
      length-set _ _ _ ∙ done.1,
    )

pub returns : goal.returns
returns c =
    let done = c.loop-i.invariant in
    sym (take_all c.loop-i.i c.loop-i.rates (omega arith))
    ∙ done.0
    ∙ ap (map (λ e. e.rate)) (take_all c.loop-i.i c.args.table.now (omega arith))
