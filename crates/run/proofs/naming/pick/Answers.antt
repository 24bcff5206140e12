use Rattle.std.proofs.Common.{◌≡◌, None, cond, sym, ap, ◌∙◌, subst, rules}
use Rattle.levels.specs.Items.{clients}
use Rattle.run.specs.Levels.{items_of}
use Rattle.run.specs.Turns.{Placed, place_of, places_from}
use Rattle.run.proofs.Marking.{placed}
use Rattle.run.proofs.naming.pick.Goals as goal

pub returns : goal.returns
returns g c =
    let items = items_of c.args.level.now in
    let j = c.args.server in
    let choice = g.C.Choosing.chosen c.args.rule.now c.args.share (clients items j) in
    let shown = c.deref.ensures.0 ∙ c.copy_out.ensures.shares in
    let client : c.choose.result ≡ choice = search rules in
    let asked : choice ≡ cond c.args.dual_named None choice = sym (ap (λ b. cond b None choice) c.if-dual_named.false) in
    let pick : c.place.result ≡ place_of (cond c.args.dual_named None choice) (places_from 0 items j) = c.place.ensures ∙ ap (place_of c.choose.result) c.copy_out.ensures.places ∙ ap (λ o. place_of o (places_from 0 items j)) (client ∙ asked) in
    record { pick = pick; placed = subst Placed (sym pick) (placed items j (cond c.args.dual_named None choice) c.copy_out.ensures.few) }
