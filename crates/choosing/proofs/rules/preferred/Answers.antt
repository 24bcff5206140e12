use Rattle.std.proofs.Common.{◌≡◌, ℕ, length, sym, ◌∙◌, subst, arith}
use Rattle.choosing.specs.Bests.{Best, best_is_first}
use Rattle.choosing.specs.Lawfulness.{few_first}
use Rattle.choosing.proofs.rules.preferred.Goals as goal

pub returns : goal.returns
returns g c =
    let beats = g.P.Preference.beats c.args.preference.now c.args.server in
    let cs = c.args.clients.now in
    let end : c.loop-i.i ≡ length cs = omega arith in
    let P : ℕ → Type 0 = λ n. Best beats cs n c.loop-i.best in
    best_is_first beats cs c.loop-i.best (subst P end c.loop-i.invariant) ∙ sym (few_first beats cs (omega arith))
