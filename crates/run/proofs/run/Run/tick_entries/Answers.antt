use Rattle.std.proofs.Common.{◌≡◌, ℕ, ◌≤◌, List, length, take, replicate, Ok, Err, sym, refl, ap, ◌∙◌, subst, arith, rules}
use Rattle.std.proofs.lemmas.List.{length-take-le}
use Rattle.ledger.specs.Calls.{tick, named}
use Rattle.ledger.specs.Theorems.{CallConforms}
use Rattle.run.specs.Refusals.{told}
use Rattle.run.specs.Replays.{Answer, answer_of, TickAnswered}
use Rattle.run.specs.Runs.{run_of, setting_of, Lawfully}
use Rattle.run.proofs.Distinct.{same_front}
use Rattle.run.proofs.Ruling.{wide}
use Rattle.run.proofs.Unsized.{unsized}
use Rattle.run.proofs.run.Run.tick_entries.Goals as goal

pub returns : goal.returns
returns g c =
    let choose = g.C.Choosing.chosen c.args.self.now.rule in
    let s = c.args.self.now.state in
    let s' = c.tick.new.self.state in
    let old : List ℕ = take c.from.result (replicate 255 0) in
    let long : length old ≡ c.args.entries = length-take-le c.from.result (replicate 255 0) (omega (arith, c.from.ensures, c.ranges.entries.fits)) ∙ c.from.ensures in
    let new = c.tick.new.list in
    let kept = c.args.self.now.kept in
    let done = c.in_ok-tick.ensures in
    let cores_fit : s.cores ≤ length old = wide choose s (unsized s kept) old new s' done.ticked in
    let same : take s.cores new ≡ take s.cores c.front.result =
    same_front s.cores new c.front.result (omega arith) (omega (arith, s.few_cores)) (λ k h. sym (c.front.ensures k (omega (arith, s.few_cores)) (omega arith))) in
    let P : List ℕ → Type 0 = λ l. CallConforms (setting_of choose s) (run_of s) (tick c.args.entries) (named l) (run_of s') in
    let Q : ℕ → Type 0 = λ n. CallConforms (setting_of choose s) (run_of s) (tick n) (named (take s.cores new)) (run_of s') in
    record {
      rule = done.rule;
      answered = record { old = old; new = new; outcome = Ok tt; entries = long; ticked = done.ticked; shown = ap named (sym same) };
      law = record { stays = done.ticked.stays; law = subst P same (subst Q long done.law) };
    }

pub returns-in_err-tick : goal.returns-in_err-tick
returns-in_err-tick g c =
    let choose = g.C.Choosing.chosen c.args.self.now.rule in
    let s = c.args.self.now.state in
    let s' = c.tick.new.self.state in
    let old : List ℕ = take c.from.result (replicate 255 0) in
    let long : length old ≡ c.args.entries = length-take-le c.from.result (replicate 255 0) (omega (arith, c.from.ensures, c.ranges.entries.fits)) ∙ c.from.ensures in
    let e = c.in_err-tick.field-0.0 in
    let done = c.in_err-tick.ensures in
    let is : c.from_residual.result ≡ Err e = search rules in
    let A : Answer → Type 0 = λ a. TickAnswered choose s c.args.entries a s' in
    let L : Answer → Type 0 = λ a. Lawfully choose s (tick c.args.entries) (answer_of a) s' in
    let Q : ℕ → Type 0 = λ n. CallConforms (setting_of choose s) (run_of s) (tick n) (told e) (run_of s') in
    record {
      rule = done.rule;
      answered = subst A (sym is) (record { old = old; new = c.tick.new.list; outcome = Err e; entries = long; ticked = done.ticked; shown = refl });
      law = subst L (sym is) (record { stays = ap (setting_of choose) done.ticked.1; law = subst Q long done.law });
    }
