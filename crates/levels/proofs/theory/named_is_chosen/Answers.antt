use Rattle.levels.proofs.Naming.{named_is_chosen}
use Rattle.levels.proofs.theory.named_is_chosen.Goals as goal

pub returns : goal.returns
returns c = named_is_chosen
