use Rattle.std.proofs.Common.{sym, refl, ap, ◌∙◌, subst, arith, rules}
use Rattle.ledger.specs.Calls.{announce, done}
use Rattle.run.specs.Keeping.{Kept}
use Rattle.run.specs.Runs.{run_of, setting_of}
use Rattle.run.proofs.Begun.{may_begin, jobs_fit, sized_begun, run_begun}
use Rattle.run.proofs.Steps.{check_follows, granted_follows}
use Rattle.run.proofs.Unsized.{unsized}
use Rattle.run.proofs.run.Run.announce.Goals as goal

pub begin_job-requires : goal.begin_job-requires
begin_job-requires g c =
    let s = c.args.self.now.state in
    let kept = c.args.self.now.kept in
    let may = may_begin s c.args.task c.args.deadline (unsized s kept) (sym c.in_ok-check_announce.ensures) in
    record {
      known = omega (arith, may.known, s.sheet_tasks);
      within = omega (arith, may.within, s.few_frames);
      fits = jobs_fit s (unsized s kept);
    }

pub invariant_of-self : goal.invariant_of-self
invariant_of-self g c =
    let s = c.args.self.now.state in
    let kept = c.args.self.now.kept in
    let may = may_begin s c.args.task c.args.deadline (unsized s kept) (sym c.in_ok-check_announce.ensures) in
    record { kept = subst Kept (sym c.begin_job.ensures) (sized_begun s c.args.task c.args.deadline (unsized s kept) may kept) }

pub returns-in_err-check_announce-clause-follows : goal.returns-in_err-check_announce-clause-follows
returns-in_err-check_announce-clause-follows g c =
    check_follows (g.C.Choosing.chosen c.args.self.now.rule) c.args.self.now.state (announce c.args.task c.args.deadline) c.from_residual.result (search rules) (search rules)

pub returns : goal.returns
returns g c =
    let choose = g.C.Choosing.chosen c.args.self.now.rule in
    let s = c.args.self.now.state in
    let kept = c.args.self.now.kept in
    let may = may_begin s c.args.task c.args.deadline (unsized s kept) (sym c.in_ok-check_announce.ensures) in
    record {
      rule = refl;
      follows = granted_follows choose s (announce c.args.task c.args.deadline) done c.begin_job.new.state c.in_ok-check_announce.ensures refl
          (ap run_of c.begin_job.ensures ∙ run_begun s c.args.task c.args.deadline (unsized s kept) may)
          (ap (setting_of choose) c.begin_job.ensures);
      refused = tt;
      cores = ap (λ x. x.placing) c.begin_job.ensures;
    }
