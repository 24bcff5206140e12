-- The servers of a level at a frame start. Assumes nothing.
use Rattle.std.proofs.Common.{◌≡◌, ℕ, zero, suc, ◌+◌, ◌<◌, ◌≤◌, min, List, [], ◌∷◌, length, drop, sym, refl, ap, ◌∙◌, arith}
use Rattle.std.proofs.lemmas.List.{at_drop_more, at_drop_all}
use Rattle.choosing.specs.Balance.{at, nothing}
use Rattle.choosing.specs.declared.share.Share.{Share}
use Rattle.levels.specs.Items.{clients, server_at}
use Rattle.levels.specs.Renewing.{least_deadline, renew_server, renew_servers}
use Rattle.levels.specs.declared.item.Item.{Item}
use Rattle.levels.specs.declared.server.Server.{Server}

pub least_at_most : (frames : ℕ) (cs : List Share) → least_deadline frames cs ≤ frames
least_at_most frames [] = omega arith
least_at_most frames (c ∷ cs) = omega (arith, least_at_most frames cs)

least_min : (d h : ℕ) (cs : List Share) → least_deadline (min d h) cs ≡ min d (least_deadline h cs)
least_min d h [] = refl
least_min d h (c ∷ cs) =
    let swap : min c.deadline (min d (least_deadline h cs)) ≡ min d (min c.deadline (least_deadline h cs)) = omega arith in
    ap (λ n. min c.deadline n) (least_min d h cs) ∙ swap

-- The least so far, and that of the clients from place i on.
module _ (best : ℕ) (cs : List Share) (i : ℕ) where
  pub least_all : length cs ≤ i → least_deadline best (drop i cs) ≡ best
  least_all h = at_drop_all (λ l. least_deadline best l) cs i h

  pub least_more : i < length cs → least_deadline (min (at cs i).deadline best) (drop (i + 1) cs) ≡ least_deadline best (drop i cs)
  least_more h = least_min (at cs i).deadline best (drop (i + 1) cs) ∙ sym (at_drop_more (λ l. least_deadline best l) cs i nothing h)

module _ (unit frames f : ℕ) (items : List Item) where
  pub length_renewed : (j : ℕ) (ss : List Server) → length (renew_servers unit frames f items j ss) ≡ length ss
  length_renewed j [] = refl
  length_renewed j (s ∷ ss) = ap suc (length_renewed (suc j) ss)

  renewed_from : (j : ℕ) (ss : List Server) (q : ℕ) → q < length ss → server_at (renew_servers unit frames f items j ss) q ≡ renew_server unit frames f (clients items (j + q)) (server_at ss q)
  renewed_from j [] q h = absurd (omega arith)
  renewed_from j (s ∷ ss) zero h = let e : j ≡ j + 0 = omega arith in ap (λ n. renew_server unit frames f (clients items n) s) e
  renewed_from j (s ∷ ss) (suc q) h =
      let e : suc j + q ≡ j + suc q = omega arith in
      renewed_from (suc j) ss q (omega arith) ∙ ap (λ n. renew_server unit frames f (clients items n) (server_at ss q)) e

  pub renewed_at : (ss : List Server) (q : ℕ) → q < length ss → server_at (renew_servers unit frames f items 0 ss) q ≡ renew_server unit frames f (clients items q) (server_at ss q)
  renewed_at ss q h = let e : 0 + q ≡ q = omega arith in renewed_from 0 ss q h ∙ ap (λ n. renew_server unit frames f (clients items n) (server_at ss q)) e
