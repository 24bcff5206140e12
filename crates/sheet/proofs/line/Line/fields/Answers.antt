use Rattle.sheet.proofs.Cuts.{line_fields}
use Rattle.sheet.proofs.line.Line.fields.Goals as goal

pub returns-clause-left : goal.returns-clause-left
returns-clause-left c =
    let line = c.args.self in
    rw (c.new.ensures.0, c.new.ensures.1) (line_fields line.sheet.now line.start line.end line.in_order line.within)
