use Rattle.ledger.proofs.Opened.{every_allowed_load_opens}
use Rattle.ledger.proofs.theory.every_allowed_load_opens.Goals as goal

pub returns : goal.returns
returns c = every_allowed_load_opens
