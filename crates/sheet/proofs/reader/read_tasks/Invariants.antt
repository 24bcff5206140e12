use Rattle.std.proofs.Common.{◌≡◌, ◌+◌, [], length, drop}
use Rattle.sheet.specs.Parts.{lines}
use Rattle.sheet.specs.Reading.{tasks_from}
use Rattle.sheet.proofs.reader.read_tasks.Given as goal

abbrev pub invariant-loop-line : goal.invariant-loop-line
invariant-loop-line l =
    let s = l.line-iterator in
    let bs = l.fn.lines.sheet.now in record {
      can_next : (goal.iterator-loop-line).can_next l.line-iterator;
      is_finite : (goal.iterator-loop-line).is_finite l.line-iterator;
      sheet : l.line-iterator.sheet.now ≡ l.fn.lines.sheet.now;
      number : l.line-iterator.number ≡ length l.tasks.items + 5;
      tasks : tasks_from bs l.tasks.items s.number s.at (lines (drop s.at bs)) ≡ tasks_from bs [] 5 l.fn.lines.at (lines (drop l.fn.lines.at bs));
    }
