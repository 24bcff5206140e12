use Rattle.ledger.proofs.Blank.{a_blank_run_is_over}
use Rattle.ledger.proofs.theory.a_blank_run_is_over.Goals as goal

pub returns : goal.returns
returns c = a_blank_run_is_over
