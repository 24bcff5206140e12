use Rattle.levels.proofs.States.{no_deadline_is_missed}
use Rattle.levels.proofs.theory.no_deadline_is_missed.Goals as goal

pub returns : goal.returns
returns c = no_deadline_is_missed
