use Rattle.std.proofs.Common.{◌≡◌, ◌≤◌, ◌<◌, Some, length, get_or, sym, ap, ◌∙◌, rules, tests}
use Rattle.run.specs.Turns.{place_of}
use Rattle.run.proofs.Marking.{place_past, place_within}
use Rattle.run.proofs.clients.Clients.place.Goals as goal

pub returns-in_err-place : goal.returns-in_err-place
returns-in_err-place c =
    let places = c.args.self.now.places.items in
    let k = c.in_ok-client.field-0 in
    let past : length places ≤ k = search (rules, tests) in
    c.from_residual-in_err-place.ensures ∙ place_past k places past ∙ ap (λ o. place_of o places) (sym c.in_ok-client.was)

pub returns : goal.returns
returns c =
    let places = c.args.self.now.places.items in
    let k = c.in_ok-client.field-0 in
    let within : k < length places = search (rules, tests) in
    let is : c.from.result ≡ get_or places k 0 = search rules in
    ap Some is ∙ place_within k places within ∙ ap (λ o. place_of o places) (sym c.in_ok-client.was)
