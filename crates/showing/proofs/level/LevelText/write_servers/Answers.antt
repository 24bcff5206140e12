use Rattle.std.proofs.Common.{ℕ, List, get_or, refl}
use Rattle.std.proofs.lemmas.List.{at_drop_all, at_drop_more}
use Rattle.packing.specs.Tables.{packing_in}
use Rattle.showing.specs.Texts.{item_text, server_text, servers_text}
use Rattle.showing.proofs.Writing.{none_written, all_written, one_more_written}
use Rattle.showing.proofs.level.LevelText.write_servers.Goals as goal

pub loop-server-init : goal.loop-server-init
loop-server-init g c plain = none_written g.W.Write.write_str_gives c.args.f.now _ plain

pub loop-server-preserved : goal.loop-server-preserved
loop-server-preserved g c plain =
    let text : ℕ → List ℕ = item_text (g.N.TaskNames.name c.args.self.now.names.now) c.args.self.now.depth in
    let homes = (packing_in c.args.self.now.level.now).homes in
    let line = server_text text c.args.self.now.unit homes in
    let rates = c.server_rates-rates.result.now in
    let before = c.loop-server.invariant plain in
    one_more_written g.W.Write.write_str_gives c.args.f.now c.loop-server.f c.write_server.new.f (line c.loop-server.server (get_or rates c.loop-server.server 0)) _ _
    (rw (at_drop_more (servers_text text c.args.self.now.unit homes c.loop-server.server) rates c.loop-server.server 0 c.loop-server-test.true) at before)
    (c.in_ok-write_server.ensures before.1.plain refl)

pub returns : goal.returns
returns g c plain _ =
    let text : ℕ → List ℕ = item_text (g.N.TaskNames.name c.args.self.now.names.now) c.args.self.now.depth in
    let homes = (packing_in c.args.self.now.level.now).homes in
    let rates = c.server_rates-rates.result.now in
    rw c.server_rates-rates.ensures.rates at (all_written g.W.Write.write_str_gives c.args.f.now c.loop-server.f (servers_text text c.args.self.now.unit homes 0 rates)
    (rw (at_drop_all (servers_text text c.args.self.now.unit homes c.loop-server.server) rates c.loop-server.server c.loop-server-test.false) at (c.loop-server.invariant plain)))
