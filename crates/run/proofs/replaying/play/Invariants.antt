use Rattle.run.proofs.Playing.{PlayingOn}
use Rattle.run.proofs.replaying.play.Given as goal

abbrev pub invariant-loop-i : goal.invariant-loop-i
invariant-loop-i g l =
    PlayingOn (g.C.Choosing.chosen l.initial.run.rule) l.initial.run.state l.calls l.initial.answers (g.C.Choosing.chosen l.run.rule) l.run.state l.answers l.i
