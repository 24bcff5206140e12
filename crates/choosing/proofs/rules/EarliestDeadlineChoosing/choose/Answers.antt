use Rattle.choosing.specs.Lawfulness.{earliest_deadline_names}
use Rattle.choosing.proofs.rules.EarliestDeadlineChoosing.choose.Goals as goal

pub returns-clause-meaning : goal.returns-clause-meaning
returns-clause-meaning c = simp c.preferred.ensures (earliest_deadline_names c.args.server c.args.clients.now)
