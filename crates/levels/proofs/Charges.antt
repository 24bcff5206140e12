-- New jobs and renewals keep what is carried for every level, and pay for what then waits. Assumes nothing.
use Rattle.std.proofs.Common.{◌≡◌, ℕ, zero, suc, ◌+◌, ◌*◌, ◌<◌, ◌≤◌, Bool, true, false, cond, not, ◌&&◌, eqb, ltb, List, [], ◌∷◌, length, Some, None, Option, sym, refl, ap, ◌∙◌, inl, inr, arith}
use Rattle.std.proofs.lemmas.List.{get_or_past}
use Rattle.std.proofs.lemmas.Bool.{ne_eqb, cases_lt}
use Rattle.packing.specs.Packing.{at_home}
use Rattle.choosing.specs.Choosing.{Rule}
use Rattle.levels.specs.declared.item.Item.{Item}
use Rattle.levels.specs.declared.server.Server.{Server}
use Rattle.levels.specs.Sums.{bit}
use Rattle.levels.specs.Items.{no_item, item_at, server_at, clients, dual_of, duals, Homed, if_homed}
use Rattle.levels.specs.Renewing.{least_deadline, server_with_job, renew_server, renew_servers, renew_levels}
use Rattle.levels.specs.Soundness.{SoundLevels}
use Rattle.levels.proofs.Least.{least_deadline_from}
use Rattle.levels.proofs.Clients.{dual_at, length_duals}
use Rattle.levels.proofs.Frame.{RenewedItems, end, next, homed_renewed, NoneDue, due_clients, AllWithin, length_renewed, server_renewed, new_duals, none_due, all_within}
use Rattle.levels.proofs.Tallies.{many, tally, bit_most, many_none, tally_le, bit_zero, picked_by_home, home_renewed, picked_renewed, tally_renewed}
use Rattle.levels.proofs.Marks.{would, Level, Marked, waits, potential, new_jobs}

-- What is not flagged as new is as it was.
abbrev pub Flagged : List Item → List Item → (ℕ → Bool) → (ℕ → Bool) → Type 0
Flagged xs ys new new' = (i : ℕ) → new' i ≡ false → (item_at ys i ≡ item_at xs i) × (new i ≡ false)

-- A server none of whose clients is new has the clients that it had.
clients_quiet : (f : ℕ) {xs ys : List Item} → RenewedItems f xs ys → (new new' : ℕ → Bool) → Flagged xs ys new new' → (q : ℕ)
    → tally ys q new' ≡ 0 → clients ys q ≡ clients xs q
clients_quiet f end new new' g q z = refl
clients_quiet f (next {x} {y} {xs} {ys} h r rs) new new' g q z =
    ap (λ o. cond (at_home o q) (y.share ∷ clients ys q) (clients ys q)) h
    ∙ go (at_home x.home q) (sym (ap (λ o. cond (at_home o q) (bit (new' 0)) 0) h) ∙ omega arith)
    (clients_quiet f rs (λ i. new (suc i)) (λ i. new' (suc i)) (λ i e. g (suc i) e) q (omega arith))
  where
    go : (b : Bool) → cond b (bit (new' 0)) 0 ≡ 0 → clients ys q ≡ clients xs q
        → cond b (y.share ∷ clients ys q) (clients ys q) ≡ cond b (x.share ∷ clients xs q) (clients xs q)
    go true e rest = λ i. ((g 0 (bit_zero (new' 0) e)).0 i).share ∷ rest i
    go false e rest = rest

tally_quiet : (f : ℕ) {xs ys : List Item} → RenewedItems f xs ys → (new new' : ℕ → Bool) → Flagged xs ys new new' → (q : ℕ) → tally ys q new' ≡ 0
    → tally xs q new ≡ 0
tally_quiet f {xs} {ys} rs new new' g q z =
    omega (arith, tally_renewed f rs q new', tally_le xs q new new' (λ i e. go (new' i) refl (new i) refl))
  where
    go : {i : ℕ} (b : Bool) → new' i ≡ b → (c : Bool) → new i ≡ c → bit c ≤ bit b
    go true e c k = bit_most c
    go {i} false e c k = omega (arith, ap bit (sym k ∙ (g i e).1))

-- One level.
pub level_renewed : (rule : Rule) (frames f : ℕ) (items items' : List Item) (ss ss' : List Server) (going new new' up up_new up_new' : ℕ → Bool)
    → Level rule frames items ss going new up up_new → RenewedItems f items items' → Flagged items items' new new' → Homed (length ss) items
    → length ss' ≡ length ss
    → ((q : ℕ) → q < length ss → (server_at ss q).share.deadline ≡ least_deadline frames (clients items' q) → server_at ss' q ≡ server_at ss q)
    → ((q : ℕ) → q < length ss → bit (up_new' q) ≤ tally items' q new')
    → Level rule frames items' ss' going new' up up_new'
level_renewed rule frames f items items' ss ss' going new new' up up_new up_new' k rs g homed len same charge = record {
  alone = λ q. omega (arith, tally_renewed f rs q going, k.alone q);
  apart = λ i q w e. k.apart i q w (sym (home_renewed f rs i) ∙ e);
  again = λ i q w e z.
      let h : (item_at items i).home ≡ Some q = sym (home_renewed f rs i) ∙ e in
      picked_renewed f rs (would rule items' ss') i
      ∙ picked_by_home (would rule items' ss') (would rule items ss) items i q h (still q (homed i q h) z)
      ∙ k.again i q w h (tally_quiet f rs new new' g q z);
  due = λ q l z. let m : q < length ss = rw len at l in ap (λ x. x.share.deadline) (same q m (due q m z)) ∙ due q m z;
  charged = λ q l. charge q (rw len at l);
}
  where
    due : (q : ℕ) → q < length ss → tally items' q new' ≡ 0 → (server_at ss q).share.deadline ≡ least_deadline frames (clients items' q)
    due q l z = k.due q l (tally_quiet f rs new new' g q z) ∙ ap (least_deadline frames) (sym (clients_quiet f rs new new' g q z))

    still : (q : ℕ) → q < length ss → tally items' q new' ≡ 0 → would rule items' ss' q ≡ would rule items ss q
    still q l z = rw (same q l (due q l z), clients_quiet f rs new new' g q z) refl

-- The flags after a frame start: a dual is new if its server was due.
abbrev pub was_due : ℕ → List Server → ℕ → Bool
was_due f ss q = eqb (server_at ss q).share.deadline f

abbrev pub renew_flags : ℕ → List (List Server) → (ℕ → Bool) → ℕ → ℕ → Bool
renew_flags f levels new zero = new
renew_flags f [] new (suc k) = λ i. false
renew_flags f (ss ∷ above) new (suc k) = renew_flags f above (was_due f ss) k

-- New jobs make items wait, at most one each.
waits_renewed : (f : ℕ) {xs ys : List Item} → RenewedItems f xs ys → (new new' going : ℕ → Bool) → Flagged xs ys new new'
    → waits ys going ≤ waits xs going + many ys new'
waits_renewed f end new new' going g = omega arith
waits_renewed f (next {x} {y} {xs} {ys} h r rs) new new' going g =
    omega (arith, one (new' 0) refl, waits_renewed f rs (λ i. new (suc i)) (λ i. new' (suc i)) (λ i. going (suc i)) (λ i e. g (suc i) e))
  where
    most : (o : Option ℕ) (b : Bool) → if_homed o (bit b) ≤ if_homed o 1
    most None b = omega arith
    most (Some k) b = bit_most b

    one : (b : Bool) → new' 0 ≡ b
        → if_homed y.home (bit (ltb 0 y.share.left && not (going 0))) ≤ if_homed x.home (bit (ltb 0 x.share.left && not (going 0))) + if_homed y.home (bit b)
    one true e = omega (arith, most y.home (ltb 0 y.share.left && not (going 0)))
    one false e = omega (arith, ap (λ z. if_homed z.home (bit (ltb 0 z.share.left && not (going 0)))) (g 0 e).0)

module _ (rule : Rule) (unit frames t f : ℕ) (start : t ≡ unit * f) (lasts : f < frames) where
  module _ (items items' : List Item) (ss : List Server) (rs : RenewedItems f items items') (d : NoneDue f items') where
    abbrev fresh : List Server
    fresh = renew_servers unit frames f items' 0 ss

    fresh_at : (q : ℕ) → q < length ss → server_at fresh q ≡ renew_server unit frames f (clients items' q) (server_at ss q)
    fresh_at q l = server_renewed unit frames t f start items' 0 ss q q (omega arith) l

    kept_at : (q : ℕ) → q < length ss → was_due f ss q ≡ false → server_at fresh q ≡ server_at ss q
    kept_at q l e = fresh_at q l ∙ ap (λ b. cond b (server_with_job unit f (least_deadline frames (clients items' q)) (server_at ss q)) (server_at ss q)) e

    -- A server whose deadline is that of a client is not due.
    not_due : (q : ℕ) → (server_at ss q).share.deadline ≡ least_deadline frames (clients items' q) → was_due f ss q ≡ false
    not_due q e = ne_eqb _ f (λ z. omega (arith, least_deadline_from frames (clients items' q) (suc f) lasts (due_clients f q items' d)))

    flagged_duals : (new : ℕ → Bool) → ((i : ℕ) → new i ≡ false) → Flagged (duals unit ss) (duals unit fresh) new (was_due f ss)
    flagged_duals new quiet q e = (elim (cases_lt q (length ss)) [ inl l ↦ inside l | inr l ↦ outside l ], quiet q)
      where
        len : length fresh ≡ length ss
        len = length_renewed unit frames t f start items' 0 ss

        inside : q < length ss → item_at (duals unit fresh) q ≡ item_at (duals unit ss) q
        inside l = dual_at unit fresh q (rw len l) ∙ ap (dual_of unit) (kept_at q l e) ∙ sym (dual_at unit ss q l)

        outside : length ss ≤ q → item_at (duals unit fresh) q ≡ item_at (duals unit ss) q
        outside l = get_or_past (duals unit fresh) q no_item (omega (arith, length_duals unit fresh, len)) ∙ sym (get_or_past (duals unit ss) q no_item (omega (arith, length_duals unit ss)))

    charge : (going new new' up up_new : ℕ → Bool) → Level rule frames items ss going new up up_new → Flagged items items' new new' → (q : ℕ)
        → q < length ss → bit (was_due f ss q) ≤ tally items' q new'
    charge going new new' up up_new k g q l = elim (cases_lt 0 (tally items' q new')) [
      | inl h ↦ omega (arith, bit_most (was_due f ss q))
      | inr h ↦ omega (arith, ap bit (not_due q (k.due q l (tally_quiet f rs new new' g q (omega arith)) ∙ ap (least_deadline frames) (sym (clients_quiet f rs new new' g q (omega arith))))))
    ]

    level_fresh : (going new new' up up_new : ℕ → Bool) → Level rule frames items ss going new up up_new → Flagged items items' new new'
        → Homed (length ss) items
        → Level rule frames items' fresh going new' up (was_due f ss)
    level_fresh going new new' up up_new k g homed =
        level_renewed rule frames f items items' ss fresh going new new' up up_new (was_due f ss) k rs g homed (length_renewed unit frames t f start items' 0 ss)
        (λ q l e. kept_at q l (not_due q e)) (charge going new new' up up_new k g)

  pub marked_renewed : (levels : List (List Server)) (items items' : List Item) (going new : ℕ → ℕ → Bool) (new' : ℕ → Bool)
      → ((k i : ℕ) → new (suc k) i ≡ false)
      → RenewedItems f items items' → NoneDue f items' → AllWithin frames items' → Flagged items items' (new 0) new'
      → SoundLevels unit frames t items levels → Marked rule unit frames items levels going new
      → Marked rule unit frames items' (renew_levels unit frames f items' levels) going (renew_flags f levels new')
      × (potential unit (renew_levels unit frames f items' levels) going + many items' new'
      ≤ potential unit levels going + new_jobs unit items' (renew_levels unit frames f items' levels) (renew_flags f levels new'))
  marked_renewed [] items items' going new new' quiet rs d by g s k = (tt, omega (arith, many_none items' new' (homed_renewed f 0 rs s)))
  marked_renewed (ss ∷ above) items items' going new new' quiet rs d by g s k =
      let duals_new : RenewedItems f (duals unit ss) (duals unit (renew_servers unit frames f items' 0 ss)) = new_duals unit frames t f start items items' ss lasts rs d by s.1 in
      let flags : Flagged (duals unit ss) (duals unit (renew_servers unit frames f items' 0 ss)) (new 1) (was_due f ss) = flagged_duals items items' ss rs d (new 1) (quiet 0) in
      let (marks, pays) = marked_renewed above (duals unit ss) (duals unit (renew_servers unit frames f items' 0 ss)) (λ n. going (suc n)) (λ n. new (suc n)) (was_due f ss) (λ n i. quiet (suc n) i)
      duals_new (none_due unit frames t f start items items' ss lasts rs d by s.1) (all_within unit frames t f start items items' ss lasts rs d by s.1) flags s.2 k.1 in (
        (level_fresh items items' ss rs d (going 0) (new 0) new' (going 1) (new 1) k.0 g s.0, marks),
        omega (arith, pays, waits_renewed f duals_new (new 1) (was_due f ss) (going 1) flags),
      )
