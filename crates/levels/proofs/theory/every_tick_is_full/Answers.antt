use Rattle.levels.proofs.States.{every_tick_is_full}
use Rattle.levels.proofs.theory.every_tick_is_full.Goals as goal

pub returns : goal.returns
returns c = every_tick_is_full
