use Rattle.std.proofs.Common.{◌≡◌, ◌-◌, eqb, length, drop, take, Some, None, rules}
use Rattle.std.specs.List.{position}
use Rattle.cores.proofs.Lookups.{behind, before}
use Rattle.cores.proofs.count.look_up.Goals as goal

pub returns-in-Some : goal.returns-in-Some
returns-in-Some c =
    let named = c.args.named.now in
    let told : Some c.in-Some.place ≡ position (λ u. eqb u c.args.task) (take (length named - c.args.from) (drop c.args.from named)) = search rules in
    behind named c.args.task c.args.from c.requires c.in-Some.place told

pub returns-in-None : goal.returns-in-None
returns-in-None c =
    let named = c.args.named.now in
    let none : None ≡ position (λ u. eqb u c.args.task) (take (length named - c.args.from) (drop c.args.from named)) = search rules in
    let told : c.find-in-None.result ≡ position (λ u. eqb u c.args.task) (take c.args.from named) = search rules in
    before named c.args.task c.args.from c.requires c.find-in-None.result none told
