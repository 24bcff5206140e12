use Rattle.levels.specs.Items.{no_server}
use Rattle.levels.specs.Ticking.{spend_server}
use Rattle.run.specs.Views.{flags}
use Rattle.run.specs.Changing.{Changed}
use Rattle.run.proofs.spending.spend_servers.Given as goal

abbrev pub invariant-loop-j : goal.invariant-loop-j
invariant-loop-j l = Changed no_server (λ q. spend_server (flags l.dual_named q)) l.initial.servers l.servers l.j
