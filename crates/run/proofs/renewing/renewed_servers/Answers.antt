use Rattle.std.proofs.Common.{◌≡◌, ◌<◌, [], ◌∷◌, ◌++◌, length, take, sym, ap, ◌∙◌, arith, rules}
use Rattle.std.proofs.lemmas.List.{take_all, take_more}
use Rattle.levels.specs.Items.{clients, no_server, server_at}
use Rattle.levels.specs.Renewing.{renew_server, renew_servers}
use Rattle.run.specs.Levels.{items_of, servers_of}
use Rattle.run.proofs.Renewals.{length_renewed, renewed_at}
use Rattle.run.proofs.renewing.renewed_servers.Goals as goal

pub loop-place-preserved : goal.loop-place-preserved
loop-place-preserved c =
    let s = c.args.level.now.state.now in
    let items = items_of c.args.level.now in
    let ss = servers_of c.args.level.now in
    let i = c.loop-place.place in
    let all = renew_servers s.unit s.frames c.args.frame items 0 ss in
    let size : length c.servers-server-items.result.now ≡ length ss = ap length c.servers-server-items.ensures.servers in
    let within : i < length ss = omega (arith, size) in
    let is : c.renewed.result ≡ renew_server s.unit s.frames c.args.frame (clients items i) (server_at ss i) = search rules in (
      c.push.ensures.items ∙ ap (λ l. l ++ c.renewed.result ∷ []) c.loop-place.invariant.0
          ∙ ap (λ x. take i all ++ x ∷ []) (is ∙ sym (renewed_at s.unit s.frames c.args.frame items ss i within))
          ∙ sym (take_more all i no_server (omega (arith, within, length_renewed s.unit s.frames c.args.frame items 0 ss))),
      omega (arith, c.push.ensures.len),
    )

pub returns : goal.returns
returns c =
    let s = c.args.level.now.state.now in
    let items = items_of c.args.level.now in
    let ss = servers_of c.args.level.now in
    let size : length c.servers-server-items.result.now ≡ length ss = ap length c.servers-server-items.ensures.servers in
    c.loop-place.invariant.0
    ∙ take_all c.loop-place.place (renew_servers s.unit s.frames c.args.frame items 0 ss) (omega (arith, size, length_renewed s.unit s.frames c.args.frame items 0 ss))
