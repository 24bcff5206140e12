use Rattle.std.proofs.Common.{◌≡◌, length, sym, ap, ◌∙◌, arith, rules}
use Rattle.cores.specs.Placing.{seat}
use Rattle.cores.proofs.Frees.{free_found, free_none}
use Rattle.cores.proofs.Steps.{settles_free, settles_full}
use Rattle.cores.proofs.place.Cores.settle.Goals as goal

pub returns-in-Some : goal.returns-in-Some
returns-in-Some c =
    let s = c.args.self.now in
    let t = c.args.task in
    let n = c.args.cores in
    let tasks : length c.args.self.now.last ≡ 80 = search rules in
    let cores : length c.args.self.now.held ≡ 16 = search rules in
    let free = free_found s.held n (omega arith) c.in-Some.core (sym c.in-Some.ensures) in
    c.seat.ensures ∙ ap (seat s t) (sym free.1) ∙ sym (settles_free n s t (omega arith) (sym c.if-not-is_seated.ensures) (omega arith))

pub returns-in_default : goal.returns-in_default
returns-in_default c =
    let s = c.args.self.now in
    let n = c.args.cores in
    let cores : length c.args.self.now.held ≡ 16 = search rules in
    sym (settles_full n s c.args.task (free_none s.held n (omega arith) (sym c.in_default.ensures)))
