use Rattle.std.proofs.Common.{◌<◌, length, sym, ◌∙◌}
use Rattle.std.proofs.lemmas.Bool.{ltb-true}
use Rattle.run.proofs.Written.{homes_at}
use Rattle.run.proofs.filling.home_in.Goals as goal

pub returns : goal.returns
returns c =
    let found = c.in_ok-get.ensures.lookup in
    let deep : c.args.level < length c.packed_levels.result.now = ltb-true _ _ (sym found.0) in
    c.home.ensures
    ∙ homes_at c.args.plan.now c.args.level c.args.item c.in_ok-get.field-0.now
    (rw c.packed_levels.ensures.levels at deep) (rw c.packed_levels.ensures.levels at found.1)
