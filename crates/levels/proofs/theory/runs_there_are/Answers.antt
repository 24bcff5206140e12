use Rattle.levels.proofs.Worked.{runs_there_are}
use Rattle.levels.proofs.theory.runs_there_are.Goals as goal

pub returns : goal.returns
returns c = runs_there_are
