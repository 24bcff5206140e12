use Rattle.std.proofs.Common.{refl}
use Rattle.run.proofs.Ledgered.{kept_blank, blank_run}
use Rattle.run.proofs.run.Run.new.Goals as goal

pub invariant_of-result : goal.invariant_of-result
invariant_of-result g c = record { kept = kept_blank c.blank.result c.blank.ensures }

pub returns : goal.returns
returns g c = record { rule = refl; blank = blank_run (g.C.Choosing.chosen c.args.rule) c.blank.result c.blank.ensures }
