use Rattle.std.proofs.Common.{◌≡◌, sym, subst, rules}
use Rattle.ledger.specs.Calls.{announce}
use Rattle.run.specs.declared.call.Call.{Call}
use Rattle.run.specs.Replays.{answer_of, call_of, Answered}
use Rattle.run.specs.Runs.{Lawfully, announced}
use Rattle.run.proofs.run.Run.put.Goals as goal

pub returns-in-Tick : goal.returns-in-Tick
returns-in-Tick g c =
    let choose = g.C.Choosing.chosen c.args.self.now.rule in
    let P : Call → Type 0 = λ call. Lawfully choose c.args.self.now.state (call_of call) (answer_of c.tick_entries.result) c.tick_entries.new.self.state in
    let Q : Call → Type 0 = λ call. Answered choose c.args.self.now.state call c.tick_entries.result c.tick_entries.new.self.state in
    record { rule = c.tick_entries.ensures.rule; answered = subst Q (sym c.in-Tick.is) c.tick_entries.ensures.answered; law = subst P (sym c.in-Tick.is) c.tick_entries.ensures.law }

pub returns-in-Announce-clause-law : goal.returns-in-Announce-clause-law
returns-in-Announce-clause-law g c =
    let choose = g.C.Choosing.chosen c.args.self.now.rule in
    let s = c.args.self.now.state in
    let s' = c.announce.new.self.state in
    let said : announced c.announce.result ≡ answer_of c.map.result = search rules in
    let law = subst (λ a. Lawfully choose s (announce c.in-Announce.task c.in-Announce.deadline) a s') said (record { stays = c.announce.ensures.follows.stays; law = c.announce.ensures.follows.law }) in
    subst (λ call. Lawfully choose s (call_of call) (answer_of c.map.result) s') (sym c.in-Announce.is) law
