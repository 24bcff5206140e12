use Rattle.std.proofs.Common.{take}
use Rattle.std.specs.Fmt.{IsPlainFormatter, HasWritten}
use Rattle.trials.specs.Printing.{after_commas}
use Rattle.trials.proofs.answer.print_rest.Given as goal

abbrev pub invariant-loop-entry : goal.invariant-loop-entry
invariant-loop-entry g l = IsPlainFormatter l.initial.f → HasWritten g.W.Write.write_str_gives l.initial.f (after_commas (take l.entry-index l.list)) l.f
