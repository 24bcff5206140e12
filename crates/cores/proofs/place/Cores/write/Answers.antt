use Rattle.std.proofs.Common.{◌≡◌, ◌+◌, ◌++◌, length, get_or, take, drop, None, sym, ap, ◌∙◌, arith, rules}
use Rattle.std.proofs.lemmas.List.{set_past}
use Rattle.cores.specs.Placing.{put, written}
use Rattle.cores.proofs.Listing.{write_more}
use Rattle.cores.proofs.place.Cores.write.Goals as goal
use Rattle.cores.proofs.place.Cores.write.Goals.{in-Some+then-core-list, in-Some+else-core-list, in_default}

pub loop-core-preserved : goal.loop-core-preserved
loop-core-preserved c =
    let held = c.args.self.now.held in
    let core = c.loop-core.core in
    let list = c.loop-core.list in
    let cores : length c.args.self.now.held ≡ 16 = search rules in
    let step : c.match-task.list ≡ put c.loop-core.list c.loop-core.core (get_or c.args.self.now.held c.loop-core.core None) = elim c.match-task.branch [
      | in-Some+then-core-list w ↦ w.list-is ∙ sym (ap (put list core) w.in-Some.is)
      | in-Some+else-core-list w ↦ w.list-is ∙ sym (ap (put list core) w.in-Some.is ∙ set_past list core w.in-Some.task (omega arith))
      | in_default w ↦ w.list-is ∙ sym (ap (put list core) w.in_default.is)
    ] in
    ap (λ l. take (core + 1) l ++ written (drop (core + 1) held) (drop (core + 1) l)) step
    ∙ write_more held core (omega arith) c.loop-core.list
    ∙ c.loop-core.invariant
