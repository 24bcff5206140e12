use Rattle.std.proofs.Common.{drop}
use Rattle.std.specs.Fmt.{IsPlainFormatter}
use Rattle.packing.specs.Tables.{packing_in}
use Rattle.showing.specs.Texts.{item_text, servers_text}
use Rattle.showing.proofs.Writing.{Writing}
use Rattle.showing.proofs.level.LevelText.write_servers.Given as goal

abbrev pub invariant-loop-server : goal.invariant-loop-server
invariant-loop-server g l =
    IsPlainFormatter l.initial.f → Writing g.W.Write.write_str_gives l.initial.f l.f
    (servers_text (item_text (g.N.TaskNames.name l.self.names.now) l.self.depth) l.self.unit (packing_in l.self.level.now).homes l.server (drop l.server l.rates))
    (servers_text (item_text (g.N.TaskNames.name l.self.names.now) l.self.depth) l.self.unit (packing_in l.self.level.now).homes 0 l.rates)
