use Rattle.std.proofs.Common.{sym}
use Rattle.std.proofs.lemmas.Result.{err_from_is_err_and}
use Rattle.sheet.proofs.Whole.{three}
use Rattle.sheet.proofs.reader.read_rest.Goals as goal

pub returns-in_err-frames : goal.returns-in_err-frames
returns-in_err-frames c =
    let p = err_from_is_err_and c.from_residual-in_err-frames.result c.from_residual-in_err-frames.ensures.1 in
    let cores = c.in_ok-cores.ensures in
    let unit = c.in_ok-unit.ensures in
    let frames = c.in_err-frames.ensures in
    let two = c.requires in
    let told = rw (cores.sheet, two) at cores.value in
    let told-2 = rw (unit.sheet, cores.sheet, cores.number, two) at unit.value in
    let told-3 = rw (unit.sheet, cores.sheet, unit.number, cores.number, two) at frames.value in
    rw (p.1, p.2) (sym (three c.args.lines.sheet.now c.args.lines.at _ _ told _ _ told-2 _ told-3))
