use Rattle.std.proofs.Common.{◌∷◌, [], ◌++◌, drop, ap, ◌∙◌, arith}
use Rattle.std.proofs.lemmas.List.{take_all}
use Rattle.packing.specs.Tables.{levels_in}
use Rattle.levels.specs.Opening.{homes_in}
use Rattle.run.specs.Opened.{each, unbegun_server}
use Rattle.run.proofs.Written.{each_push, each_server}
use Rattle.run.proofs.filling.servers_of.Goals as goal

pub loop-j-preserved : goal.loop-j-preserved
loop-j-preserved c =
    let y = c.unbegun_server.result in (
      c.push.ensures.items
          ∙ ap (λ ss. ss ++ y ∷ []) c.loop-j.invariant.0
          ∙ each_push unbegun_server c.args.rates.now (homes_in (drop c.args.above (levels_in c.args.plan.now))) c.loop-j.j y
          (c.unbegun_server.ensures ∙ ap (unbegun_server _) c.home_in.ensures) c.loop-j-test.true,
      omega (arith, c.push.ensures.len, c.loop-j.invariant.1),
    )

pub returns : goal.returns
returns c =
    let homes = homes_in (drop c.args.above (levels_in c.args.plan.now)) in
    c.loop-j.invariant.0
    ∙ ap (λ rates. each unbegun_server rates homes) (take_all c.loop-j.j c.args.rates.now c.loop-j-test.false)
    ∙ each_server c.args.rates.now homes
