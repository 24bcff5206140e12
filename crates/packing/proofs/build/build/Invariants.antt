use Rattle.std.proofs.Common.{◌-◌, length}
use Rattle.packing.proofs.Reached.{ReachedLevel}
use Rattle.packing.proofs.build.build.Given as goal

-- the levels so far are the first of the plan, and the next one is at hand
abbrev pub invariant-loop-level : goal.invariant-loop-level
invariant-loop-level g l = ReachedLevel (g.F.Fitting.fits l.rule) l.unit l.rates.items l.levels.items l.level

abbrev pub decreases-loop-level : goal.decreases-loop-level
decreases-loop-level g l = 5 - length l.levels.items
