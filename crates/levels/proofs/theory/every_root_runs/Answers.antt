use Rattle.levels.proofs.Picks.{every_root_runs}
use Rattle.levels.proofs.theory.every_root_runs.Goals as goal

pub returns : goal.returns
returns c = every_root_runs
