use Rattle.levels.proofs.Plans.{every_plan_opens}
use Rattle.levels.proofs.theory.every_plan_opens.Goals as goal

pub returns : goal.returns
returns c = every_plan_opens
