use Rattle.std.proofs.Common.{suc, ◌<◌, length, sym, ap, ◌∙◌, subst, rules}
use Rattle.std.specs.List.{AllByRecursion}
use Rattle.cores.specs.Naming.{Names}
use Rattle.run.specs.Changing.{with_all}
use Rattle.run.specs.Views.{machine, task_at, view}
use Rattle.run.proofs.Stepping.{each_ticked, kept_is, listed_runs, machine_is, runs_are, short_run, tick_same, view_is}
use Rattle.run.proofs.turning.go_on.Goals as goal

pub advance-requires : goal.advance-requires
advance-requires g c =
    let e = c.args.state.now in
    let same = tick_same (g.C.Choosing.chosen c.args.rule.now) e c.make_ready.new.state c.run_levels-named.new.state c.make_ready.ensures.kept c.make_ready.ensures.levels c.run_levels-named.ensures.kept in
    let short = short_run e in
    search rules

pub returns : goal.returns
returns g c =
    let rule = g.C.Choosing.chosen c.args.rule.now in
    let e = c.args.state.now in
    let m = c.make_ready.new.state in
    let x = c.run_levels-named.new.state in
    let ready = c.make_ready.ensures in
    let ran = c.run_levels-named.ensures in
    let numbers = c.run_levels-named.result.items in
    let count = ap (λ s. s.count) ready.kept in
    let on = c.advance.ensures in
    record {
      goes = ap view on ∙ view_is rule e m x ready.kept ready.levels ran.kept ran.tasks ran.levels;
      stays = ap machine on ∙ machine_is rule e m x ready.kept ready.levels ran.kept;
      each = λ i. ap (λ s. task_at s i) on ∙ each_ticked rule e m x ready.kept ready.levels ran.kept ran.each i;
      listed = listed_runs rule e m x ready.kept ready.levels ran.kept numbers ran.listed;
      exactly = subst (λ f. Names f numbers) (runs_are rule e m x ready.kept ready.levels ran.kept) ran.exactly;
      below = subst (λ n. AllByRecursion (λ i. i < n) numbers) count ran.below;
      kept = on ∙ kept_is rule e m x ready.kept ready.levels ran.kept ∙ sym (λ t. with_all e (suc e.tick) (ap (λ s. s.tasks) on t) (ap (λ s. s.levels) on t));
      table = ap (λ s. length s.tasks) on ∙ ran.table;
    }
