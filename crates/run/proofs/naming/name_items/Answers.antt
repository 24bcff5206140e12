use Rattle.std.proofs.Common.{◌≡◌, ◌<◌, None, cond, length, ap, ◌∙◌, arith, rules}
use Rattle.levels.specs.Items.{clients, server_at}
use Rattle.levels.specs.Ticking.{picks}
use Rattle.run.specs.Levels.{items_of, servers_of}
use Rattle.run.specs.Turns.{place_of, places_from}
use Rattle.run.specs.Views.{flags}
use Rattle.run.proofs.Marking.{marking_all, marking_more, marking_none}
use Rattle.run.proofs.Picking.{picks_at, picks_past}
use Rattle.run.proofs.naming.name_items.Goals as goal

pub loop-j-init : goal.loop-j-init
loop-j-init g c =
    let l = c.args.level.now in
    marking_none (picks (λ _. g.C.Choosing.chosen c.args.rule.now) (items_of l) (servers_of l) (flags c.args.dual_named.now)) (items_of l)

pub loop-j-preserved : goal.loop-j-preserved
loop-j-preserved g c =
    let l = c.args.level.now in
    let rule = g.C.Choosing.chosen c.args.rule.now in
    let duals = flags c.args.dual_named.now in
    let j = c.loop-j.j in
    let size = ap length c.servers-server-items.ensures.servers in
    let within : j < length (servers_of l) = omega (arith, size) in
    let told : c.pick-item.result ≡ place_of (cond (duals j) None (rule (server_at (servers_of l) j).share (clients (items_of l) j))) (places_from 0 (items_of l) j) = search rules in
    let is = told ∙ ap (λ o. place_of o (places_from 0 (items_of l) j)) (picks_at rule (items_of l) (servers_of l) duals j within) in
    marking_more (picks (λ _. rule) (items_of l) (servers_of l) duals) (items_of l) c.loop-j.named c.mark.new.named j c.pick-item.result c.loop-j.invariant is c.pick-item.ensures.placed c.mark.ensures

pub returns : goal.returns
returns g c =
    let l = c.args.level.now in
    let rule = g.C.Choosing.chosen c.args.rule.now in
    let size = ap length c.servers-server-items.ensures.servers in
    let p = picks (λ _. rule) (items_of l) (servers_of l) (flags c.args.dual_named.now) in
    marking_all p (items_of l) c.loop-j.named c.loop-j.j c.loop-j.invariant
    (λ q h. picks_past rule (items_of l) (servers_of l) (flags c.args.dual_named.now) q (omega (arith, size, h)))
