use Rattle.levels.proofs.States.{rules_are_asked_in_balance}
use Rattle.levels.proofs.theory.rules_are_asked_in_balance.Goals as goal

pub returns : goal.returns
returns c = rules_are_asked_in_balance
