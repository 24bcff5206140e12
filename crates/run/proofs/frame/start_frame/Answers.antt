use Rattle.std.proofs.Common.{◌≡◌, ◌*◌, ◌%◌, ◌<◌, sym, ◌∙◌}
use Rattle.std.proofs.lemmas.Bool.{leb-true, leb-false, eqb-true, eqb-false}
use Rattle.run.proofs.Starting.{start_phased, midst_phased, over_phased, has_unit}
use Rattle.run.proofs.frame.start_frame.Goals as goal
use Rattle.run.proofs.frame.start_frame.Goals.{else-not-is_over-via-then-not-is_over+else-starts_frame, else-not-is_over-via-else-not-is_over}

pub returns-then-starts_frame-clause-phased : goal.returns-then-starts_frame-clause-phased
returns-then-starts_frame-clause-phased c =
    let s = c.args.state.now in
    let lasts : s.tick < s.unit * s.frames = leb-false _ _ (sym c.is_over.ensures ∙ c.if-not-is_over.true) in
    let starts : s.tick % s.unit ≡ 0 = eqb-true _ _ (sym c.starts_frame.ensures ∙ c.if-starts_frame.true) in
    start_phased s c.requires c.start_tasks.new.tasks (rw c.frame-frame.ensures at c.start_tasks.ensures) lasts (has_unit s.unit s.frames s.tick lasts) starts

pub returns-else-not-is_over-clause-phased : goal.returns-else-not-is_over-clause-phased
returns-else-not-is_over-clause-phased c =
    let s = c.args.state.now in
    elim c.else-not-is_over.branch [
      | else-not-is_over-via-then-not-is_over+else-starts_frame w ↦
          let lasts : s.tick < s.unit * s.frames = leb-false _ _ (sym c.is_over.ensures ∙ w.if-not-is_over.true) in
          midst_phased s c.requires (has_unit s.unit s.frames s.tick lasts) (eqb-false _ _ (sym w.starts_frame.ensures ∙ w.if-starts_frame.false))
      | else-not-is_over-via-else-not-is_over w ↦ over_phased s c.requires (leb-true _ _ (sym c.is_over.ensures ∙ w.if-not-is_over.false))
    ]
