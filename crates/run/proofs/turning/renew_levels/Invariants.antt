use Rattle.run.proofs.Rising.{Rising}
use Rattle.run.proofs.turning.renew_levels.Given as goal

abbrev pub invariant-loop-level : goal.invariant-loop-level
invariant-loop-level l = Rising l.initial.state l.state l.frame l.level
