use Rattle.std.proofs.Common.{take, rules, tests}
use Rattle.std.proofs.lemmas.Iterator.{YieldsList-from_slice}
use Rattle.std.proofs.lemmas.Iterator.Search.{position_from_yields_List}
use Rattle.run.specs.declared.task.Task.{Task}
use Rattle.run.specs.Phases.{is_awaited}
use Rattle.run.proofs.Reading.{lowest_read}
use Rattle.run.proofs.run.Run.lowest_awaited.Goals as goal

pub returns-clause-lowest : goal.returns-clause-lowest
returns-clause-lowest g c =
    let s = c.args.self.now.state in
    lowest_read s c.args.self.now.kept.table c.args.self.now.kept.phased c.position.result
    (position_from_yields_List (λ (t : Task). is_awaited t.phase) _ _ c.position.result c.position.ensures.ran (YieldsList-from_slice (take s.sheet s.tasks) (search rules)) (λ x b q k. search (rules, tests)))
