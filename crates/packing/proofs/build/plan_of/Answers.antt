use Rattle.std.proofs.Common.{sym, subst, arith}
use Rattle.packing.specs.Steps.{FillsCores}
use Rattle.packing.proofs.Idle.{limits, full_tasks}
use Rattle.packing.proofs.Planned.{planned}
use Rattle.packing.proofs.build.plan_of.Goals as goal

pub overflow_cast-load : goal.overflow_cast-load
overflow_cast-load g c =
    let load = c.args.load.now in
    let limits = limits load.cores load.unit load.rates.now c.requires in
    omega (arith, limits.small_unit)

pub all_tasks-requires : goal.all_tasks-requires
all_tasks-requires g c = let load = c.args.load.now in limits load.cores load.unit load.rates.now c.requires

pub build-requires : goal.build-requires
build-requires g c =
    let load = c.args.load.now in
    subst (FillsCores load.unit) (sym c.all_tasks.ensures)
    (load.cores, full_tasks load.cores load.unit load.rates.now (limits load.cores load.unit load.rates.now c.requires))

pub returns : goal.returns
returns g c =
    let load = c.args.load.now in
    planned (g.F.Fitting.fits c.args.rule.now) (g.met.F.Fitting.lawful c.args.rule.now) load.cores load.unit load.rates.now
    c.requires c.all_tasks.result.items c.build.result c.all_tasks.ensures c.build.ensures
