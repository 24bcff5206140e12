use Rattle.std.proofs.Common.{◌+◌, length, map, drop, ap, ◌∙◌, arith}
use Rattle.std.proofs.lemmas.List.{take_all}
use Rattle.packing.specs.Tables.{levels_in}
use Rattle.levels.specs.Opening.{homes_in, servers_in, servers_of}
use Rattle.run.specs.Views.{level_servers}
use Rattle.run.proofs.Written.{length_levels_in, length_servers_in, levels_more}
use Rattle.run.proofs.filling.fill_levels.Goals as goal

pub loop-k-preserved : goal.loop-k-preserved
loop-k-preserved c =
    let p = c.args.plan.now in
    let k = c.loop-k.k in
    let levels = c.packed_levels-level-items.ensures.levels in
    let made = rw levels at (c.servers_of.ensures ∙ ap (λ rates. servers_of rates (homes_in (drop (k + 1) (levels_in p)))) c.server_rates.ensures.rates) in (
      ap (map level_servers) c.push.ensures.items
          ∙ levels_more p c.loop-k.levels.items c.servers_of.result k (rw levels at c.loop-k-test.true) made c.loop-k.invariant.0,
      omega (arith, c.push.ensures.len, c.loop-k.invariant.1),
    )

pub returns : goal.returns
returns c =
    let p = c.args.plan.now in
    c.loop-k.invariant.0
    ∙ take_all c.loop-k.k (servers_in (levels_in p)) (omega (arith, length_servers_in (levels_in p), length_levels_in p, ap length c.packed_levels-level-items.ensures.levels, c.loop-k-test.false))
