use Rattle.choosing.specs.Lawfulness.{least_slack_names}
use Rattle.choosing.proofs.rules.LeastSlackChoosing.choose.Goals as goal

pub returns-clause-meaning : goal.returns-clause-meaning
returns-clause-meaning c = simp c.preferred.ensures (least_slack_names c.args.server c.args.clients.now)
