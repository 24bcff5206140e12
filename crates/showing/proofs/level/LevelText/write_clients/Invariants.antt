use Rattle.std.proofs.Common.{true, drop}
use Rattle.std.specs.Fmt.{IsPlainFormatter}
use Rattle.showing.specs.Texts.{clients_from, item_text}
use Rattle.showing.proofs.Writing.{Writing}
use Rattle.showing.proofs.level.LevelText.write_clients.Given as goal

abbrev pub invariant-loop-item : goal.invariant-loop-item
invariant-loop-item g l =
    IsPlainFormatter l.initial.f → Writing g.W.Write.write_str_gives l.initial.f l.f
    (clients_from (item_text (g.N.TaskNames.name l.self.names.now) l.self.depth) l.server l.first l.item (drop l.item l.homes))
    (clients_from (item_text (g.N.TaskNames.name l.self.names.now) l.self.depth) l.server true 0 l.homes)
