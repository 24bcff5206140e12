use Rattle.std.proofs.Common.{◌≡◌, ◌-◌, sym, ◌∙◌, subst, rules, tests}
use Rattle.std.specs.Option.{option_map}
use Rattle.packing.specs.Preferred.{best_fit_names}
use Rattle.packing.specs.Rules.{IsBestFit, best_fit}
use Rattle.packing.proofs.Least.{least_fit}
use Rattle.packing.proofs.rules.BestFitFitting.fit.Goals as goal

pub returns : goal.returns
returns c =
    let used = c.args.used.now in
    let number : c.map.result ≡ option_map (λ s. s.0) c.min_by_key.result = search (rules, tests) in
    let answer : c.map.result ≡ best_fit used c.args.unit c.args.rate =
    number
    ∙ least_fit (λ x. c.args.unit - x) used c.args.unit c.args.rate c.iter.result c.enumerate.result c.filter.result c.min_by_key.result
    (cc) c.enumerate.ensures.source c.enumerate.ensures.count c.filter.ensures.source c.filter.ensures.closure c.min_by_key.ensures.ran
    (λ x b q k. search (rules, tests))
    (λ x k q h. search (rules, tests)) in
    record { answer = answer; meaning = subst (IsBestFit used c.args.unit c.args.rate) (sym answer) (best_fit_names used c.args.unit c.args.rate) }
