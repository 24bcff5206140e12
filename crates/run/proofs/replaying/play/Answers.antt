use Rattle.std.proofs.Common.{◌≡◌, ℕ, ◌<◌, length, take, ap, subst, arith, length-take, get_or-take}
use Rattle.std.proofs.lemmas.List.{length-take-le}
use Rattle.run.specs.Replays.{answer_of, call_of, Answered}
use Rattle.run.specs.Runs.{Lawfully}
use Rattle.run.specs.declared.call.Call.TheVariants.{Announce}
use Rattle.run.proofs.Playing.{PlayingOn, playing_none, playing_more}
use Rattle.run.proofs.replaying.play.Goals as goal

pub loop-i-init : goal.loop-i-init
loop-i-init g c = playing_none (g.C.Choosing.chosen c.args.run.now.rule) c.args.run.now.state c.args.calls.now c.args.answers.now

pub loop-i-preserved : goal.loop-i-preserved
loop-i-preserved g c =
    let chosen = g.C.Choosing.chosen in
    let s = c.loop-i.run.state in
    let s' = c.put.new.self.state in
    let i = c.loop-i.i in
    let a = c.put.result in
    let calls = c.args.calls.now in
    let n = c.min-count.result in
    let within : i < n = omega (arith, length-take n calls, c.loop-i-test.true) in
    let same = get_or-take n calls i (Announce 0 0) within in
    playing_more (chosen c.args.run.now.rule) c.args.run.now.state calls c.args.answers.now (chosen c.loop-i.run.rule) (chosen c.put.new.self.rule) s s'
    c.loop-i.answers i a (Announce 0 0) (omega (arith, c.min-count.ensures)) (omega (arith, c.min-count.ensures))
    (ap chosen c.put.ensures.rule)
    (subst (λ call. Answered (chosen c.loop-i.run.rule) s call a s') same c.put.ensures.answered)
    (subst (λ call. Lawfully (chosen c.loop-i.run.rule) s (call_of call) (answer_of a) s') same c.put.ensures.law)
    c.loop-i.invariant

pub returns : goal.returns
returns g c =
    let n = c.min-count.result in
    let calls = c.args.calls.now in
    let size : length (take n calls) ≡ n = length-take-le n calls (omega (arith, c.min-count.ensures)) in
    let end : c.loop-i.i ≡ n = omega (arith, size) in
    let P : ℕ → Type 0 = PlayingOn (g.C.Choosing.chosen c.args.run.now.rule) c.args.run.now.state calls c.args.answers.now
    (g.C.Choosing.chosen c.loop-i.run.rule) c.loop-i.run.state c.loop-i.answers in
    let so = subst P end c.loop-i.invariant in
    record { all = c.min-count.ensures; answered = so.answered; reaches = so.reaches; behind = so.behind }
