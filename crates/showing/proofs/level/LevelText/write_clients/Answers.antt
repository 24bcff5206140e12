use Rattle.std.proofs.Common.{ℕ, true, List, refl, sym, ◌∙◌}
use Rattle.std.proofs.lemmas.List.{at_drop_all}
use Rattle.showing.specs.Texts.{clients_from, item_text}
use Rattle.showing.proofs.Writing.{none_written, all_written, client_written, other_passed}
use Rattle.showing.proofs.level.LevelText.write_clients.Goals as goal
use Rattle.showing.proofs.level.LevelText.write_clients.Goals.{then-is_home+in_ok-write_client, else-is_home}

pub loop-item-init : goal.loop-item-init
loop-item-init g c plain = none_written g.W.Write.write_str_gives c.args.f.now _ plain

pub loop-item-preserved : goal.loop-item-preserved
loop-item-preserved g c plain =
    let text : ℕ → List ℕ = item_text (g.N.TaskNames.name c.args.self.now.names.now) c.args.self.now.depth in
    let before = c.loop-item.invariant plain in
    elim c.if-is_home.branch [
      | then-is_home+in_ok-write_client w ↦
          simp (w.f-is, w.first-is)
          (client_written g.W.Write.write_str_gives c.args.f.now c.loop-item.f text c.args.server c.item_homes-homes.result.now c.loop-item.first c.loop-item.item _ c.loop-item-test.true before
          w.write_client.new.f (sym c.is_home.ensures ∙ w.if-is_home.true) (w.in_ok-write_client.ensures before.1.plain refl))
      | else-is_home w ↦
          simp (w.f-is, w.first-is)
          (other_passed g.W.Write.write_str_gives c.args.f.now c.loop-item.f text c.args.server c.item_homes-homes.result.now c.loop-item.first c.loop-item.item _ c.loop-item-test.true before
          (sym c.is_home.ensures ∙ w.if-is_home.false))
    ]

pub returns : goal.returns
returns g c plain _ =
    let text : ℕ → List ℕ = item_text (g.N.TaskNames.name c.args.self.now.names.now) c.args.self.now.depth in
    let homes = c.item_homes-homes.result.now in
    rw c.item_homes-homes.ensures at (all_written g.W.Write.write_str_gives c.args.f.now c.loop-item.f (clients_from text c.args.server true 0 homes)
    (rw (at_drop_all (clients_from text c.args.server c.loop-item.first c.loop-item.item) homes c.loop-item.item c.loop-item-test.false) at (c.loop-item.invariant plain)))
