use Rattle.ledger.proofs.Worked.{conforming_is_not_enough}
use Rattle.ledger.proofs.theory.conforming_is_not_enough.Goals as goal

pub returns : goal.returns
returns c = conforming_is_not_enough
