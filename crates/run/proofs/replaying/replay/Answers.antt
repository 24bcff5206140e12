use Rattle.std.proofs.Common.{ap}
use Rattle.run.proofs.Playing.{played}
use Rattle.run.proofs.replaying.replay.Goals as goal

pub returns : goal.returns
returns g c =
    let chosen = g.C.Choosing.chosen in
    let load = c.args.opening.now.load in
    played (g.F.Fitting.fits c.args.fitting.now) (chosen c.args.rule) (chosen c.new-run.result.rule) (chosen c.open.new.self.rule)
    load.cores load.unit c.args.opening.now.frames load.rates.now c.args.calls.now c.args.answers.now c.play.new.answers c.play.result c.open.new.self.state
    (ap chosen c.new-run.ensures.rule) (ap chosen c.in_ok-open.ensures.rule) c.in_ok-open.ensures.opened
    c.play.ensures.all (chosen c.play.new.run.rule) c.play.new.run.state c.play.ensures.answered c.play.ensures.reaches c.play.ensures.behind
