use Rattle.choosing.specs.Bests.{Best}
use Rattle.choosing.proofs.rules.preferred.Given as goal

abbrev pub invariant-loop-i : goal.invariant-loop-i
invariant-loop-i g l = Best (g.P.Preference.beats l.preference l.server) l.clients l.i l.best
