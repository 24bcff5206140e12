use Rattle.ledger.proofs.Conforming.{every_call_has_one_answer}
use Rattle.ledger.proofs.theory.every_call_has_one_answer.Goals as goal

pub returns : goal.returns
returns c = every_call_has_one_answer
