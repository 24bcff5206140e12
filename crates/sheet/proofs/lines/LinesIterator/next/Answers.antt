use Rattle.std.proofs.Common.{refl, arith}
use Rattle.sheet.proofs.Cuts.{counted, line_next, part_long}
use Rattle.sheet.proofs.lines.LinesIterator.next.Goals as goal

pub returns-clause-steps : goal.returns-clause-steps
returns-clause-steps c =
    let s = c.args.self.now in
    let found = counted 10 s.sheet.now s.at c.count_before.result (omega arith) c.count_before.ensures.count in
    let long = part_long s.sheet.now s.at _ (omega arith) found.1 in
    (refl, (line_next s.sheet.now s.at _ c.if-self.false found.0, refl, refl, refl, refl, omega arith))
