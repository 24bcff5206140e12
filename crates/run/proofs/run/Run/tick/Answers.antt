use Rattle.std.proofs.Common.{length, refl, rules}
use Rattle.ledger.specs.Calls.{tick}
use Rattle.run.proofs.Ruling.{tick_law}
use Rattle.run.proofs.Steps.{check_law}
use Rattle.run.proofs.Unsized.{unsized}
use Rattle.run.proofs.run.Run.tick.Goals as goal

pub carry_out-requires : goal.carry_out-requires
carry_out-requires g c = record { kept = c.args.self.now.kept; granted = c.in_ok-check_tick.ensures }

pub invariant_of-self : goal.invariant_of-self
invariant_of-self g c = record { kept = c.carry_out.ensures.kept }

pub returns-in_err-check_tick-clause-law : goal.returns-in_err-check_tick-clause-law
returns-in_err-check_tick-clause-law g c =
    let s = c.args.self.now.state in
    check_law (g.C.Choosing.chosen c.args.self.now.rule) s (tick (length c.args.list.now)) s.cores c.args.list.now c.from_residual.result (search rules) (search rules)

pub returns : goal.returns
returns g c = record {
  rule = refl;
  ticked = c.carry_out.ensures.ticked;
  law = tick_law (g.C.Choosing.chosen c.args.self.now.rule) c.args.self.now.state (unsized c.args.self.now.state c.args.self.now.kept) c.args.list.now c.carry_out.new.list c.carry_out.new.state
      c.carry_out.ensures.ticked;
}
