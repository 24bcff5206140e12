use Rattle.ledger.proofs.Opened.{every_opening_is_fresh}
use Rattle.ledger.proofs.theory.every_opening_is_fresh.Goals as goal

pub returns : goal.returns
returns c = every_opening_is_fresh
