use Rattle.std.proofs.Common.{arith}
use Rattle.levels.specs.Items.{no_server}
use Rattle.levels.specs.Ticking.{spend_server, spend_servers}
use Rattle.run.specs.Views.{flags}
use Rattle.run.proofs.Spent.{length_servers_spent, server_spent}
use Rattle.run.proofs.Tables.{changed_all}
use Rattle.run.proofs.spending.spend_servers.Goals as goal

pub returns : goal.returns
returns c =
    let duals = flags c.args.dual_named.now in
    let old = c.args.servers.now in
    changed_all no_server (λ q. spend_server (duals q)) old c.loop-j.servers (spend_servers duals old) c.loop-j.j (omega arith) c.loop-j.invariant
    (length_servers_spent duals old) (server_spent duals old)
