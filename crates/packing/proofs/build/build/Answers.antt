use Rattle.std.proofs.Common.{◌≡◌, ◌++◌, ◌∷◌, [], map, length, refl, sym, ap, ◌∙◌, subst, arith}
use Rattle.std.proofs.lemmas.Bool.{false≢true}
use Rattle.packing.specs.Plan.{duals}
use Rattle.packing.specs.Tables.{level_table, packing_in}
use Rattle.packing.proofs.Plans.{one_small_plan}
use Rattle.packing.proofs.Reached.{Reached, reached_none, few_servers, few_levels, reached_all, reached_more, packed_some, packed_is}
use Rattle.packing.proofs.Tabled.{built}
use Rattle.packing.proofs.build.build.Goals as goal

pub unwrap-level-requires : goal.unwrap-level-requires
unwrap-level-requires g c =
    let rule = g.F.Fitting.fits c.args.rule.now in
    let items = c.args.rates.items in
    let full = c.requires in
    let one = one_small_plan rule (g.met.F.Fitting.lawful c.args.rule.now) c.args.unit full.0 items full.1 in
    packed_some rule c.args.unit items _ c.deref.ensures.0 _ c.pack.ensures
    (omega (arith, ap length c.deref.ensures.0, c.deref.ensures.1)) (few_servers rule c.args.unit items [] items (reached_none rule c.args.unit full.0 items one))

pub loop-level-init : goal.loop-level-init
loop-level-init g c =
    let rule = g.F.Fitting.fits c.args.rule.now in
    let items = c.args.rates.items in
    let full = c.requires in
    let one = one_small_plan rule (g.met.F.Fitting.lawful c.args.rule.now) c.args.unit full.0 items full.1 in
    record {
      items = items;
      packed = packed_is rule c.args.unit items _ c.deref.ensures.0 _ c.pack.ensures c.unwrap-level.result c.unwrap-level.ensures;
      reached = rw c.new-levels.ensures (reached_none rule c.args.unit full.0 items one);
    }

pub unwrap-above-requires : goal.unwrap-above-requires
unwrap-above-requires g c =
    let rule = g.F.Fitting.fits c.args.rule.now in
    let items = c.args.rates.items in
    let done = c.loop-level.levels.items in
    let level = c.loop-level.level in
    let above = duals c.args.unit (packing_in level).rates in
    let test = c.loop-level-test.ensures in
    let next = reached_more rule c.args.unit items done level c.loop-level.invariant (λ roots. false≢true (test.1 roots)) in
    let same = c.deref-in-loop-level.ensures.0 ∙ c.duals.ensures in
    packed_some rule c.args.unit above _ same _ c.pack-in-loop-level.ensures
    (omega (arith, ap length same, c.deref-in-loop-level.ensures.1)) (few_servers rule c.args.unit items (done ++ level ∷ []) above next)

pub push-requires : goal.push-requires
push-requires g c =
    (omega arith, few_levels (g.F.Fitting.fits c.args.rule.now) c.args.unit c.args.rates.items c.loop-level.levels.items c.loop-level.level c.loop-level.invariant)

pub loop-level-smaller : goal.loop-level-smaller
loop-level-smaller g c =
    let few =
    few_levels (g.F.Fitting.fits c.args.rule.now) c.args.unit c.args.rates.items c.loop-level.levels.items c.loop-level.level c.loop-level.invariant in
    omega (arith, few, c.push.ensures.len)

pub loop-level-preserved : goal.loop-level-preserved
loop-level-preserved g c =
    let rule = g.F.Fitting.fits c.args.rule.now in
    let items = c.args.rates.items in
    let done = c.loop-level.levels.items in
    let level = c.loop-level.level in
    let above = duals c.args.unit (packing_in level).rates in
    let test = c.loop-level-test.ensures in
    record {
      items = above;
      packed =
          packed_is rule c.args.unit above _ (c.deref-in-loop-level.ensures.0 ∙ c.duals.ensures) _ c.pack-in-loop-level.ensures
          c.unwrap-above.result c.unwrap-above.ensures;
      reached =
          subst (λ ls. Reached rule c.args.unit items ls above) (sym c.push.ensures.items)
          (reached_more rule c.args.unit items done level c.loop-level.invariant (λ roots. false≢true (test.1 roots)));
    }

pub push-requires-2 : goal.push-requires-2
push-requires-2 g c =
    (omega arith, few_levels (g.F.Fitting.fits c.args.rule.now) c.args.unit c.args.rates.items c.loop-level.levels.items c.loop-level.level c.loop-level.invariant)

pub returns : goal.returns
returns g c =
    let rule = g.F.Fitting.fits c.args.rule.now in
    let tasks = c.args.rates.items in
    let test = c.loop-level-test.ensures in
    let all = reached_all rule c.args.unit tasks c.loop-level.levels.items c.loop-level.level c.loop-level.invariant (test.0 refl) in
    let stored : c.deref-3.result.now ≡ map level_table all.0 = c.deref-3.ensures.0 ∙ c.push-2.ensures.items ∙ all.2 in
    built rule c.args.unit tasks all.0 c.plan_table.result all.1 (rw c.deref-2.ensures.0 at (c.plan_table.ensures all.0 stored))
