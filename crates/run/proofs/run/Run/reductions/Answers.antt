use Rattle.std.proofs.Common.{◌≡◌, ◌-◌, length, ap, arith, rules}
use Rattle.std.proofs.lemmas.List.{length-map}
use Rattle.ledger.specs.Calls.{number, reductions_made}
use Rattle.run.specs.Views.{level_servers, levels_of}
use Rattle.run.proofs.Steps.{asked_follows}
use Rattle.run.proofs.run.Run.reductions.Goals as goal

pub returns : goal.returns
returns g c =
    let s = c.args.self.now.state in
    let size : c.len.result ≡ length s.levels.items = search rules in
    let same : c.saturating_sub.result ≡ length (levels_of s) - 1 =
    omega (arith, c.saturating_sub.ensures, size, length-map s.levels.items level_servers) in
    record {
      follows = asked_follows (g.C.Choosing.chosen c.args.self.now.rule) s reductions_made (number c.saturating_sub.result) (ap number same);
      few = omega (arith, c.saturating_sub.ensures, size, c.args.self.now.kept.few_levels);
    }
