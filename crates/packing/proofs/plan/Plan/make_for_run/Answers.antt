use Rattle.packing.specs.declared.opening.OpeningRefusal.TheVariants.{Load}
use Rattle.packing.proofs.plan.Plan.make_for_run.Goals as goal

pub plan_of-requires : goal.plan_of-requires
plan_of-requires g c f applies = c.in_ok-check.ensures (Load f) applies
