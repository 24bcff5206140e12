use Rattle.std.proofs.Common.{true, ◌++◌, get_or, take, codes, decimal, refl, subst}
use Rattle.std.proofs.lemmas.List.{take_all}
use Rattle.std.specs.Fmt.{HasWritten}
use Rattle.trials.specs.Printing.{after_commas}
use Rattle.std.proofs.lemmas.Grind.{put_two}
use Rattle.trials.proofs.Printed.{after_commas_more}
use Rattle.trials.proofs.answer.print_rest.Goals as goal

pub loop-entry-preserved : goal.loop-entry-preserved
loop-entry-preserved g c plain =
    let before = c.loop-entry.invariant plain in
    put_two g.W.Write.write_str_gives c.args.f.now c.loop-entry.f c.write.new.self (after_commas (take c.loop-entry.entry-index c.args.list.now))
    (codes "," ++ decimal (get_or c.args.list.now c.loop-entry.entry-index 0)) _ before (c.in_ok-write.ensures.writes before.plain (refl {a = true}))
    (after_commas_more c.args.list.now c.loop-entry.entry-index c.loop-entry-test.true)

pub returns : goal.returns
returns g c plain e = subst (λ l. HasWritten g.W.Write.write_str_gives c.args.f.now (after_commas l) c.loop-entry.f)
    (take_all c.loop-entry.entry-index c.args.list.now c.loop-entry-test.false) (c.loop-entry.invariant plain)
