use Rattle.run.proofs.Falling.{Falling}
use Rattle.run.proofs.turning.run_levels.Given as goal

abbrev pub invariant-loop-level : goal.invariant-loop-level
invariant-loop-level g l = Falling (g.C.Choosing.chosen l.rule) l.initial.state l.state l.level l.named
