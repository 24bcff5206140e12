use Rattle.std.proofs.Common.{◌≡◌, suc, ◌-◌, length, replicate, take, false, sym, ap, ◌∙◌, subst, arith, rules, get_or-take}
use Rattle.std.proofs.lemmas.List.{length-take-le}
use Rattle.levels.specs.Sums.{passing}
use Rattle.run.specs.Turns.{names}
use Rattle.run.specs.Changing.{with_tables}
use Rattle.run.specs.Views.{flags, levels_of, tasks_of}
use Rattle.run.proofs.Falling.{Falling, falling_none, falling_more, falling_levels, falling_names}
use Rattle.run.proofs.Listing.{passing_same}
use Rattle.run.proofs.Stepping.{below_are, each_is, listed_are, names_are, tasks_are}
use Rattle.run.proofs.turning.run_levels.Goals as goal

pub loop-level-init : goal.loop-level-init
loop-level-init g c =
    let rule = g.C.Choosing.chosen c.args.rule.now in
    let e = c.args.state.now in
    let all : length e.levels.items ≡ c.len-level.result = search rules in
    subst (λ n. Falling rule e e n (replicate 80 false)) all (falling_none rule e)

pub run_level-named-requires : goal.run_level-named-requires
run_level-named-requires g c = omega (arith, c.loop-level.invariant.size)

pub loop-level-preserved : goal.loop-level-preserved
loop-level-preserved g c =
    let rule = g.C.Choosing.chosen c.args.rule.now in
    let e = c.args.state.now in
    let s = c.loop-level.state in
    let k = c.loop-level.level in
    let marks = c.loop-level.named in
    let one : k ≡ suc (k - 1) = omega arith in
    let so : Falling rule e s (suc (k - 1)) marks = subst (λ n. Falling rule e s n marks) one c.loop-level.invariant in
    falling_more rule e s (k - 1) marks (omega arith) so c.run_level-named.new.state c.run_level-named.result c.run_level-named.ensures.named c.run_level-named.ensures.ran

pub returns : goal.returns
returns g c =
    let rule = g.C.Choosing.chosen c.args.rule.now in
    let e = c.args.state.now in
    let s = c.loop-level.state in
    let marks = c.loop-level.named in
    let inv = c.loop-level.invariant in
    let table : length e.tasks ≡ 80 = search rules in
    let none : c.loop-level.level ≡ 0 = omega arith in
    let marked : flags marks ≡ names rule e = falling_names rule e s c.loop-level.level marks inv none in
    let ticked = c.tick_tasks.ensures.ticked in
    let ts = c.tick_tasks.new.state.tasks in
    let after = c.tick_tasks.ensures.kept in
    let long = ticked.long ∙ ap (λ x. length x.tasks) inv.kept ∙ table in
    let numbers = c.list_named.result.items in
    let marks_long : length marks ≡ 80 = search rules in
    let n = c.tick_tasks.new.state.count in
    let size : length (take n marks) ≡ n = length-take-le n marks (omega (arith, marks_long, c.tick_tasks.new.state.few_tasks)) in
    let listed = c.list_named.ensures
    ∙ ap (λ k. passing 0 k (flags (take n marks))) size
    ∙ passing_same 0 n (flags (take n marks)) (flags marks) (λ i h below. get_or-take n marks i false (omega (arith, below)))
    ∙ ap (λ x. passing 0 x.count (flags marks)) after in
    record {
      levels = ap levels_of after ∙ falling_levels rule e s c.loop-level.level marks inv none;
      tasks = ap tasks_of after ∙ tasks_are rule e s table marks inv.kept marked ts long ticked.done ticked.rest;
      each = each_is rule e s table marks inv.kept marked ts long ticked.done ticked.rest;
      listed = listed_are rule e s table marks inv.kept marked numbers listed;
      exactly = names_are rule e s table marks inv.kept marked numbers listed;
      below = below_are rule e s table marks inv.kept marked numbers listed;
      kept = after ∙ ap (λ x. with_tables x ts s.levels) inv.kept ∙ ap (with_tables e ts) (sym (ap (λ x. x.levels) after));
      table = long;
    }
