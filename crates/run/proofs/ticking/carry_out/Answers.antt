use Rattle.std.proofs.Common.{◌≡◌, ◌+◌, ◌≤◌, length, filter, refl, ap, ◌∙◌, subst, arith}
use Rattle.cores.specs.Counting.{preemptions}
use Rattle.cores.specs.Laws.{Lawful, Listed}
use Rattle.cores.specs.Placing.{limited, placed}
use Rattle.run.specs.Changing.{remade}
use Rattle.run.specs.Counts.{has_left}
use Rattle.run.proofs.Carried.{preemptions_fit, unmarked_placed, sized_ticked, granted_now}
use Rattle.run.proofs.Unsized.{unsized}
use Rattle.run.proofs.ticking.carry_out.Goals as goal

pub count_tick-requires : goal.count_tick-requires
count_tick-requires g c = omega (
  arith,
  preemptions_fit c.args.state.now (unsized c.args.state.now c.requires.kept) (length c.args.list.now) c.requires.granted (g.C.Choosing.chosen c.args.rule.now)
      c.go_on-named.new.state c.go_on-named.result.items c.go_on-named.ensures,
  ap (λ x. x.preemptions) c.place_named.ensures.kept,
)

pub start_frame-requires : goal.start_frame-requires
start_frame-requires g c =
    let s = c.args.state.now in
    let s1 = c.go_on-named.new.state in
    let nm = c.go_on-named.result.items in
    let s2 = c.count_tick.new.state in
    let p3 = c.place_named.new.state.placing in
    let counts = c.count_tick.ensures in
    let put = c.place_named.ensures.kept in
    let counted : s2 ≡ remade s1 s1.tick s1.tasks s1.levels s1.jobs (s1.preemptions + preemptions s1.unfinished.items nm) p3 s2.unfinished =
    counts.kept ∙ ap (λ x. remade x x.tick x.tasks x.levels x.jobs (x.preemptions + preemptions x.unfinished.items nm) x.placing s2.unfinished) put in
    unmarked_placed s (unsized s c.requires.kept) (length c.args.list.now) c.requires.granted (g.C.Choosing.chosen c.args.rule.now) s1 nm c.go_on-named.ensures s2 p3 counted

pub returns : goal.returns
returns g c =
    let s = c.args.state.now in
    let s1 = c.go_on-named.new.state in
    let nm = c.go_on-named.result.items in
    let s2 = c.count_tick.new.state in
    let p3 = c.place_named.new.state.placing in
    let counts = c.count_tick.ensures in
    let put = c.place_named.ensures.kept in
    let counted : s2 ≡ remade s1 s1.tick s1.tasks s1.levels s1.jobs (s1.preemptions + preemptions s1.unfinished.items nm) p3 s2.unfinished =
    counts.kept ∙ ap (λ x. remade x x.tick x.tasks x.levels x.jobs (x.preemptions + preemptions x.unfinished.items nm) x.placing s2.unfinished) put in
    let kept = unsized s c.requires.kept in
    let width = length c.args.list.now in
    let choose = g.C.Choosing.chosen c.args.rule.now in
    let gone = c.go_on-named.ensures in
    let left : s2.unfinished.items ≡ filter (has_left s1.tasks) nm = counts.unfinished ∙ ap (λ x. filter (has_left x.tasks) nm) put in
    let few = subst (λ x. preemptions x.unfinished.items nm ≤ 80) put counts.few in
    let same = c.deref.ensures.0 in
    let places = c.place_named.ensures in
    let lawful = subst (λ l. Lawful s1.placing l (limited s1.cores) p3) same places.lawful in
    let listed = subst (λ l. Listed l (limited s1.cores) p3 c.args.list.now c.place_named.new.list) same places.listed in
    let s4 = c.start_frame.new.state in
    let starts = c.start_frame.ensures in
    record {
      ticked = granted_now s kept width c.requires.granted choose s1 nm gone s2 s4 p3 counted left few starts.kept starts.items starts.table
          c.args.list.now c.place_named.new.list (places.placed ∙ ap (λ l. placed s1.placing l (limited s1.cores)) same) places.list lawful listed refl;
      kept = sized_ticked s kept width c.requires.granted choose s1 nm gone s2 s4 p3 counted left few starts.kept starts.items starts.table
          c.requires.kept starts.phased lawful.recorded;
    }
