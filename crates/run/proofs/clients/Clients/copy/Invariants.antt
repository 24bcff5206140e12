use Rattle.std.proofs.Common.{◌≡◌, ◌≤◌, length, take}
use Rattle.levels.specs.Items.{clients}
use Rattle.run.specs.Levels.{items_in}
use Rattle.run.specs.Turns.{places_from}
use Rattle.run.proofs.clients.Clients.copy.Given as goal

abbrev pub invariant-loop-i : goal.invariant-loop-i
invariant-loop-i g l = record {
  shares : l.self.shares.items ≡ clients (take l.i (items_in g.T.Packed.item l.unit l.packed)) l.server;
  places : l.self.places.items ≡ places_from 0 (take l.i (items_in g.T.Packed.item l.unit l.packed)) l.server;
  few_shares : length l.self.shares.items ≤ l.i;
  few_places : length l.self.places.items ≤ l.i;
}
