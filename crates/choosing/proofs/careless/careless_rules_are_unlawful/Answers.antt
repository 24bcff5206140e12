use Rattle.choosing.proofs.Refuted.{careless_rules_are_unlawful}
use Rattle.choosing.proofs.careless.careless_rules_are_unlawful.Goals as goal

pub returns : goal.returns
returns c = careless_rules_are_unlawful
