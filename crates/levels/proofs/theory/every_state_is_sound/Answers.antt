use Rattle.levels.proofs.States.{every_state_is_sound}
use Rattle.levels.proofs.theory.every_state_is_sound.Goals as goal

pub returns : goal.returns
returns c = every_state_is_sound
