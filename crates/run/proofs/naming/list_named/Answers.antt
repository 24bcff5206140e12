use Rattle.std.proofs.Common.{◌≡◌, true, false, [], ◌∷◌, ◌++◌, length, sym, ap, ◌∙◌, arith}
use Rattle.run.specs.Views.{flags}
use Rattle.run.proofs.Listing.{passing_no, passing_yes}
use Rattle.run.proofs.naming.list_named.Goals as goal
use Rattle.run.proofs.naming.list_named.Goals.{then-named, else-named}

pub loop-task-preserved : goal.loop-task-preserved
loop-task-preserved c =
    let i = c.loop-task.task in
    let test = flags c.args.named.now in
    elim c.if-named.branch [
      | then-named w ↦
          let yes : test i ≡ true = w.if-named.true in (
            ap (λ t. t.items) w.tasks-is ∙ w.push.ensures.items ∙ ap (λ l. l ++ i ∷ []) c.loop-task.invariant.0 ∙ sym (passing_yes i test yes),
            omega (arith, ap (λ t. length t.items) w.tasks-is, w.push.ensures.len),
          )
      | else-named w ↦
          let no : test i ≡ false = w.if-named.false in (
            ap (λ t. t.items) w.tasks-is ∙ c.loop-task.invariant.0 ∙ sym (passing_no i test no),
            omega (arith, ap (λ t. length t.items) w.tasks-is),
          )
    ]
