use Rattle.std.proofs.Common.{◌≡◌, length, sym, ap, ◌∙◌, arith}
use Rattle.levels.specs.Items.{clients, duals}
use Rattle.run.specs.Turns.{items_at, places_from}
use Rattle.run.proofs.Levelled.{items_high, count_high}
use Rattle.run.proofs.clients.Clients.copy_out.Goals as goal

-- above the lowest level it packs the duals of the servers below
duals_packed : (c : goal.After-copy-else-level-eq0) → duals c.args.level.now.state.now.unit c.below.result.now ≡ items_at c.args.level.now.state.now c.args.level.now.number
duals_packed c =
    let l = c.args.level.now in
    ap (duals l.state.now.unit) c.below.ensures.servers ∙ sym (items_high l.state.now l.number (omega (arith, c.if-level-eq0.false)) l.there)

pub returns-else-level-eq0-clause-shares : goal.returns-else-level-eq0-clause-shares
returns-else-level-eq0-clause-shares c = c.copy-else-level-eq0.ensures.shares ∙ ap (λ xs. clients xs c.args.server) (duals_packed c)

pub returns-else-level-eq0-clause-places : goal.returns-else-level-eq0-clause-places
returns-else-level-eq0-clause-places c = c.copy-else-level-eq0.ensures.places ∙ ap (λ xs. places_from 0 xs c.args.server) (duals_packed c)

pub returns-else-level-eq0-clause-few : goal.returns-else-level-eq0-clause-few
returns-else-level-eq0-clause-few c =
    let l = c.args.level.now in
    omega (arith, count_high l.state.now l.number (omega (arith, c.if-level-eq0.false)) l.there, ap length c.below.ensures.servers, c.below.ensures.few)
