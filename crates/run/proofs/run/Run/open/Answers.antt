use Rattle.std.proofs.Common.{refl}
use Rattle.run.proofs.Fitted.{fits_tables, opens}
use Rattle.run.proofs.Ledgered.{kept_opened, opened_run}
use Rattle.run.proofs.run.Run.open.Goals as goal

pub filled-self-requires : goal.filled-self-requires
filled-self-requires g c =
    let made = c.in_ok-make_for_run.ensures in
    let load = c.args.opening.now.load in
    fits_tables (g.F.Fitting.fits c.args.fitting.now) load.cores load.unit c.args.opening.now.frames load.rates.now c.make_for_run.new.self made.0 made.1

pub invariant_of-self : goal.invariant_of-self
invariant_of-self g c =
    let made = c.in_ok-make_for_run.ensures in
    let load = c.args.opening.now.load in
    let frames = c.args.opening.now.frames in
    let fit = g.F.Fitting.fits c.args.fitting.now in
    let tables = opens fit load.cores load.unit frames load.rates.now c.make_for_run.new.self made.0 made.1 c.filled-self.result c.filled-self.ensures in
    record { kept = kept_opened fit load.cores load.unit frames load.rates.now c.filled-self.result tables }

pub returns : goal.returns
returns g c =
    let made = c.in_ok-make_for_run.ensures in
    let load = c.args.opening.now.load in
    let frames = c.args.opening.now.frames in
    let fit = g.F.Fitting.fits c.args.fitting.now in
    let tables = opens fit load.cores load.unit frames load.rates.now c.make_for_run.new.self made.0 made.1 c.filled-self.result c.filled-self.ensures in
    record {
      rule = refl;
      opened = opened_run fit (g.met.F.Fitting.lawful c.args.fitting.now)
          (g.C.Choosing.chosen c.args.self.now.rule) (g.met.C.Choosing.lawful c.args.self.now.rule)
          load.cores load.unit frames load.rates.now c.filled-self.result tables;
    }
