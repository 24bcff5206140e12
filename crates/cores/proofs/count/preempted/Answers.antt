use Rattle.std.proofs.Common.{◌≡◌, ℕ, ◌≤◌, Bool, cond, not, get_or, Some, None, subst, ap, ◌∙◌, arith}
use Rattle.std.proofs.lemmas.List.Filters.{length-filter_more}
use Rattle.std.proofs.lemmas.List.{take_all}
use Rattle.cores.specs.Counting.{LookedUp, preemptions}
use Rattle.cores.specs.Naming.{member}
use Rattle.cores.proofs.count.preempted.Goals as goal
use Rattle.cores.proofs.count.preempted.Goals.{in-Some, in-None}

-- a task counts if it is not named
abbrev one : Bool → ℕ
one b = cond (not b) 1 0

pub loop-task-preserved : goal.loop-task-preserved
loop-task-preserved c =
    let named = c.args.named.now in
    let i = c.loop-task.task-index in
    let t = get_or c.args.unfinished.now i 0 in
    let more = length-filter_more (λ t. not (member t named)) c.args.unfinished.now i 0 c.loop-task-test.true in
    let told : LookedUp named t c.look_up.result = c.look_up.ensures in
    elim c.match-look_up.branch [
      | in-Some w ↦
          let there : LookedUp named t (Some w.in-Some.place) = subst (LookedUp named t) w.in-Some.is told in
          let none : one (member t named) ≡ 0 = ap one there.1 in (
            omega (arith, w.count-is, c.loop-task.invariant.0),
            omega (arith, w.next-is, there.0),
            omega (arith, w.count-is, c.loop-task.invariant.2, more, none),
          )
      | in-None w ↦
          let nowhere : LookedUp named t None = subst (LookedUp named t) w.in-None.is told in
          let one_more : one (member t named) ≡ 1 = ap one nowhere in (
            omega (arith, w.count-is, c.loop-task.invariant.0),
            omega (arith, w.next-is, c.loop-task.invariant.1),
            omega (arith, w.count-is, c.loop-task.invariant.2, more, one_more),
          )
    ]

pub returns : goal.returns
returns c =
    c.loop-task.invariant.2
    ∙ ap (λ ts. preemptions ts c.args.named.now) (take_all c.loop-task.task-index c.args.unfinished.now c.loop-task-test.false)
