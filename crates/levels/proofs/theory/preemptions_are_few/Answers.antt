use Rattle.levels.proofs.Preemptions.{preemptions_are_few}
use Rattle.levels.proofs.theory.preemptions_are_few.Goals as goal

pub returns : goal.returns
returns c = preemptions_are_few
