use Rattle.std.proofs.Common.{rules}
use Rattle.trials.proofs.Lists.{tick_on}
use Rattle.trials.proofs.runs.tick.Goals as goal

pub returns : goal.returns
returns g c = tick_on (g.C.Choosing.chosen c.args.run.now.rule) c.args.run.now.state c.tick.new.self.state c.args.entries c.truncate.new.self.items c.tick.new.list
    (search rules) (search rules) (search rules)
