use Rattle.std.proofs.Common.{◌≡◌, ◌<◌, [], ◌∷◌, ◌++◌, length, sym, ap, ◌∙◌, arith}
use Rattle.std.proofs.lemmas.List.{get_or-map, length-map, take_all}
use Rattle.packing.specs.Packing.{at_home}
use Rattle.levels.specs.Items.{clients, item_at, no_item}
use Rattle.run.specs.Levels.{items_in}
use Rattle.run.specs.Turns.{places_from}
use Rattle.run.proofs.Scan.{clients_yes, clients_no, places_yes, places_no}
use Rattle.run.proofs.clients.Clients.copy.Goals as goal
use Rattle.run.proofs.clients.Clients.copy.Goals.{then-is_home, else-is_home}

pub loop-i-init : goal.loop-i-init
loop-i-init g c = record {
  shares = c.clear.ensures;
  places = c.clear-2.ensures;
  few_shares = omega (arith, ap length c.clear.ensures);
  few_places = omega (arith, ap length c.clear-2.ensures);
}

pub push-requires : goal.push-requires
push-requires g c = (omega arith, omega (arith, c.loop-i.invariant.few_shares, c.loop-i-test.true, c.requires.few))

pub push-requires-then-is_home : goal.push-requires-then-is_home
push-requires-then-is_home g c = (omega arith, omega (arith, c.loop-i.invariant.few_places, c.loop-i-test.true, c.requires.few))

pub loop-i-preserved : goal.loop-i-preserved
loop-i-preserved g c =
    let item = g.T.Packed.item in
    let unit = c.args.unit in
    let items = items_in item unit c.args.packed.now in
    let i = c.loop-i.i in
    let j = c.args.server in
    let within : i < length items = omega (arith, length-map c.args.packed.now (λ y. item y unit), c.loop-i-test.true) in
    let x = item c.index-packed-i.result unit in
    let is : x ≡ item_at items i = ap (λ y. item y unit) c.index-packed-i.is ∙ sym (get_or-map (λ y. item y unit) c.args.packed.now i c.index-packed-i.result no_item c.loop-i-test.true) in
    elim c.if-is_home.branch [
      | then-is_home w ↦
          let at = ap (λ h. at_home h j) (sym (c.home.ensures unit)) ∙ sym c.is_home.ensures ∙ w.if-is_home.true in
          let shares = ap (λ t. t.shares.items) w.self-is ∙ w.push.ensures.items ∙ ap (λ y. c.loop-i.self.shares.items ++ y ∷ []) w.share.ensures in
          let places = ap (λ t. t.places.items) w.self-is ∙ w.push-then-is_home.ensures.items in
          record {
            shares = shares ∙ ap (λ l. l ++ x.share ∷ []) c.loop-i.invariant.shares ∙ sym (clients_yes items i j x within is at);
            places = places ∙ ap (λ l. l ++ i ∷ []) c.loop-i.invariant.places ∙ sym (places_yes items i j x within is at);
            few_shares = omega (arith, ap (λ t. length t.shares.items) w.self-is, w.push.ensures.len, c.loop-i.invariant.few_shares);
            few_places = omega (arith, ap (λ t. length t.places.items) w.self-is, w.push-then-is_home.ensures.len, c.loop-i.invariant.few_places);
          }
      | else-is_home w ↦
          let at = ap (λ h. at_home h j) (sym (c.home.ensures unit)) ∙ sym c.is_home.ensures ∙ w.if-is_home.false in
          record {
            shares = ap (λ t. t.shares.items) w.self-is ∙ c.loop-i.invariant.shares ∙ sym (clients_no items i j x within is at);
            places = ap (λ t. t.places.items) w.self-is ∙ c.loop-i.invariant.places ∙ sym (places_no items i j x within is at);
            few_shares = omega (arith, ap (λ t. length t.shares.items) w.self-is, c.loop-i.invariant.few_shares);
            few_places = omega (arith, ap (λ t. length t.places.items) w.self-is, c.loop-i.invariant.few_places);
          }
    ]

pub returns-clause-shares : goal.returns-clause-shares
returns-clause-shares g c =
    let items = items_in g.T.Packed.item c.args.unit c.args.packed.now in
    c.loop-i.invariant.shares ∙ ap (λ xs. clients xs c.args.server) (take_all c.loop-i.i items (omega (arith, length-map c.args.packed.now (λ y. g.T.Packed.item y c.args.unit), c.loop-i-test.false)))

pub returns-clause-places : goal.returns-clause-places
returns-clause-places g c =
    let items = items_in g.T.Packed.item c.args.unit c.args.packed.now in
    c.loop-i.invariant.places ∙ ap (λ xs. places_from 0 xs c.args.server) (take_all c.loop-i.i items (omega (arith, length-map c.args.packed.now (λ y. g.T.Packed.item y c.args.unit), c.loop-i-test.false)))
