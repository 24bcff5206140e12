-- What is carried for every level beside the state, so as to count preemptions: the items that go on, and those with a new job since the last tick. Assumes nothing.
use Rattle.std.proofs.Common.{◌≡◌, ℕ, zero, suc, ◌+◌, ◌-◌, ◌*◌, ◌<◌, ◌≤◌, Bool, true, false, not, ◌&&◌, ltb, List, [], ◌∷◌, length, Some, None, Option, sym, refl, ap, ◌∙◌, subst, inl, inr, mul-le-mul_left, arith}
use Rattle.std.proofs.lemmas.List.{get_or-set_same, get_or_past}
use Rattle.std.proofs.lemmas.Bool.{cases_lt, lt-ltb, ltb-true, and_parts, both_ways}
use Rattle.choosing.specs.declared.share.Share.{Share}
use Rattle.choosing.specs.Balance.{nothing, at, spent, spent_at}
use Rattle.choosing.specs.Choosing.{Rule, Lawful, GoesOn}
use Rattle.levels.specs.declared.item.Item.{Item}
use Rattle.levels.specs.declared.server.Server.{Server}
use Rattle.levels.specs.Sums.{bit, count}
use Rattle.levels.specs.Items.{no_item, item_at, server_at, clients, duals, Homed, if_homed}
use Rattle.levels.specs.Ticking.{always, picks, picked, named, spend_if, spend_item, spend_items, spend_server, spend_servers, spend_levels}
use Rattle.levels.specs.Renewing.{least_deadline}
use Rattle.levels.specs.Soundness.{SoundLevels}
use Rattle.levels.proofs.Never.{never_some, same_some}
use Rattle.levels.proofs.Least.{least_deadline_spent}
use Rattle.levels.proofs.Answering.{told_some}
use Rattle.levels.proofs.Clients.{spent_by, spend_clients, IsPick, is_pick, item_spent, home_spent, server_spent, length_servers_spent, duals_spent, length_duals}
use Rattle.levels.proofs.Picks.{picks_run, picks_parts, named_home}
use Rattle.levels.proofs.Tick.{least_now, Fresh, Ticked, ticked}
use Rattle.levels.proofs.Sums.{sum_add}
use Rattle.levels.proofs.Tallies.{many, tally, if_homed_most, bit_most, many_tally, sum_le, many_none, many_count, tally_le, tally_none, tally_picked, picked_by_home, picked_spent, tally_spent}

-- What each server would name if it ran.
abbrev pub would : Rule → List Item → List Server → ℕ → Option ℕ
would rule items ss q = rule (server_at ss q).share (clients items q)

-- One level. `going`: the items that ran in the last tick and have left; `new`: those with a new job since then;
-- `up` and `up_new`: the same of the duals.
pub record Level (rule : Rule) (frames : ℕ) (items : List Item) (ss : List Server) (going new up up_new : ℕ → Bool) : Type 0 where
  pub alone : (q : ℕ) → tally items q going ≤ 1
  pub apart : (i q : ℕ) → going i ≡ true → (item_at items i).home ≡ Some q → up q ≡ false
  pub again : (i q : ℕ) → going i ≡ true → (item_at items i).home ≡ Some q → tally items q new ≡ 0 → picked (would rule items ss) items i ≡ true
  pub due : (q : ℕ) → q < length ss → tally items q new ≡ 0 → (server_at ss q).share.deadline ≡ least_deadline frames (clients items q)
  pub charged : (q : ℕ) → q < length ss → bit (up_new q) ≤ tally items q new

-- All levels: at 0 the flags of the items, at 1 those of their servers' duals, and so on.
abbrev pub Marked : Rule → ℕ → ℕ → List Item → List (List Server) → (ℕ → ℕ → Bool) → (ℕ → ℕ → Bool) → Type 0
Marked rule unit frames items [] going new = Unit {0}
Marked rule unit frames items (ss ∷ above) going new =
    Level rule frames items ss (going 0) (new 0) (going 1) (new 1) × Marked rule unit frames (duals unit ss) above (λ k. going (suc k)) (λ k. new (suc k))

-- How many items wait: they have left and do not just go on.
abbrev pub waits : List Item → (ℕ → Bool) → ℕ
waits xs going = many xs (λ i. ltb 0 (item_at xs i).share.left && not (going i))

-- The same of all duals.
abbrev pub potential : ℕ → List (List Server) → (ℕ → ℕ → Bool) → ℕ
potential unit [] going = 0
potential unit (ss ∷ above) going = waits (duals unit ss) (going 1) + potential unit above (λ k. going (suc k))

-- The new jobs of the items and of all duals that have a home.
abbrev pub new_jobs : ℕ → List Item → List (List Server) → (ℕ → ℕ → Bool) → ℕ
new_jobs unit items [] new = 0
new_jobs unit items (ss ∷ above) new = many items (new 0) + new_jobs unit (duals unit ss) above (λ k. new (suc k))

-- The items that were named and have left.
abbrev pub goes_on : (ℕ → Bool) → List Item → ℕ → Bool
goes_on named xs i = named i && ltb 0 (item_at (spend_items named xs) i).share.left

abbrev pub all_go_on : Rule → ℕ → List Item → List (List Server) → ℕ → ℕ → Bool
all_go_on rule unit items levels zero = goes_on (named (always rule) unit items levels) items
all_go_on rule unit items [] (suc k) = λ i. false
all_go_on rule unit items (ss ∷ above) (suc k) = all_go_on rule unit (duals unit ss) above k

-- ---- starts: an item that starts had waited, and one that is preempted waits

waiting : (b : Bool) → ◌≡◌ {A = ℕ} (bit (b && not (true && b))) 0
waiting true = refl
waiting false = refl

some_left : (n : ℕ) → 1 ≤ n → ltb 0 n ≡ true
some_left n h = lt-ltb 0 n h

one_start : (h : Option ℕ) (n g : Bool) (c : Share) → (n ≡ true → 1 ≤ c.left)
    → if_homed h (bit (n && not g)) + if_homed h (bit (ltb 0 (spend_if n c).left && not (n && ltb 0 (spend_if n c).left))) ≤ if_homed h (bit (ltb 0 c.left && not g)) + if_homed h (bit (g && not n))
one_start None n g c l = omega arith
one_start (Some h) true true c l = omega (arith, waiting (ltb 0 (c.left - 1)))
one_start (Some h) true false c l = omega (arith, waiting (ltb 0 (c.left - 1)), ap (λ b. bit (b && true)) (some_left c.left (l refl)))
one_start (Some h) false true c l = omega (arith, bit_most (ltb 0 c.left && true))
one_start (Some h) false false c l = omega arith

pub starts : (xs : List Item) (n g : ℕ → Bool) → ((i : ℕ) → n i ≡ true → 1 ≤ (item_at xs i).share.left)
    → many xs (λ i. n i && not (g i)) + waits (spend_items n xs) (goes_on n xs) ≤ waits xs g + many xs (λ i. g i && not (n i))
starts [] n g l = omega arith
starts (x ∷ xs) n g l = omega (arith, one_start x.home (n 0) (g 0) x.share (λ e. l 0 e), starts xs (λ i. n (suc i)) (λ i. g (suc i)) (λ i e. l (suc i) e))

-- Each server that has a new job has a client that has one. So the new jobs of all levels are at most those of the lowest for
-- each level.
duals_new : (unit : ℕ) (items : List Item) (ss : List Server) (new up_new : ℕ → Bool) → Homed (length ss) items
    → ((q : ℕ) → q < length ss → bit (up_new q) ≤ tally items q new)
    → many (duals unit ss) up_new ≤ many items new
duals_new unit items ss new up_new g c =
    omega (arith, many_most (duals unit ss) up_new, ap (λ n. count n up_new) (length_duals unit ss), sum_le (length ss) (λ q. bit (up_new q)) (λ q. tally items q new) c, many_tally (length ss) items new g)
  where
    many_most : (xs : List Item) (p : ℕ → Bool) → many xs p ≤ count (length xs) p
    many_most [] p = omega arith
    many_most (x ∷ xs) p = omega (arith, if_homed_most x.home (bit (p 0)), many_most xs (λ i. p (suc i)))

pub new_jobs_most : (rule : Rule) (unit frames t : ℕ) (items : List Item) (levels : List (List Server)) (going new : ℕ → ℕ → Bool)
    → SoundLevels unit frames t items levels
    → Marked rule unit frames items levels going new → new_jobs unit items levels new ≤ length levels * many items (new 0)
new_jobs_most rule unit frames t items [] going new s k = omega arith
new_jobs_most rule unit frames t items (ss ∷ above) going new s k =
    omega (
      arith,
      new_jobs_most rule unit frames t (duals unit ss) above (λ n. going (suc n)) (λ n. new (suc n)) s.2 k.1,
      mul-le-mul_left (length above) (duals_new unit items ss (new 0) (new 1) s.0 k.0.charged),
    )

-- ---- one tick

and_left : (a b : Bool) → bit (a && b) ≤ bit a
and_left true b = bit_most b
and_left false b = omega arith

both : (a b : Bool) → (a ≡ true → b ≡ true) → (a && not b) ≡ false
both true b f = rw (f refl) refl
both false b f = refl

not_both : (a b : Bool) → (a ≡ true → ⊥) → (a && b) ≡ false
not_both true b f = absurd (f refl)
not_both false b f = refl

least_deadline_at : (h : ℕ) (o : Option ℕ) (cs : List Share) → least_deadline h (spent_by o cs) ≡ least_deadline h cs
least_deadline_at h None cs = refl
least_deadline_at h (Some k) cs = least_deadline_spent h k cs

same_deadline : (b : Bool) (s : Server) → (spend_server b s).share.deadline ≡ s.share.deadline
same_deadline true s = refl
same_deadline false s = refl

module _ (rule : Rule) (law : Lawful rule) (goes_on_law : GoesOn rule) (unit frames t : ℕ) where
  module _ (items : List Item) (ss : List Server) (above : List (List Server)) (s : SoundLevels unit frames t items (ss ∷ above))
      (f : Fresh unit t (ss ∷ above))
      (up : Ticked (always rule) unit frames t (duals unit ss) above) where
    abbrev dual_named : ℕ → Bool
    dual_named = named (always rule) unit (duals unit ss) above

    abbrev pick : ℕ → Option ℕ
    pick = picks (λ j. rule) items ss dual_named

    abbrev now : ℕ → Bool
    now = picked pick items

    -- A server whose client is preempted has a client with a new job, or its dual starts.
    preempted_one : (going new up up_new : ℕ → Bool) → Level rule frames items ss going new up up_new → (q : ℕ) → q < length ss
        → tally items q (λ i. going i && not (now i)) ≤ tally items q new + bit (dual_named q && not (up q))
    preempted_one going new up up_new k q l = elim (cases_lt 0 (tally items q new)) [
      | inl h ↦ omega (arith, most)
      | inr h ↦ quiet (omega arith) (dual_named q) refl (up q) refl
    ]
      where
        most : tally items q (λ i. going i && not (now i)) ≤ 1
        most = omega (arith, k.alone q, tally_le items q (λ i. going i && not (now i)) going (λ i e. and_left (going i) (not (now i))))

        quiet : tally items q new ≡ 0 → (b : Bool) → dual_named q ≡ b → (u : Bool) → up q ≡ u
            → tally items q (λ i. going i && not (now i)) ≤ tally items q new + bit (b && not u)
        quiet z true e true g = omega (arith, tally_none items q (λ i. going i && not (now i)) (λ i h. not_both (going i) (not (now i)) (λ w. both_ways (up q) (k.apart i q w h) g)))
        quiet z true e false g = omega (arith, most)
        quiet z false e u g = omega (
          arith,
          tally_none items q (λ i. going i && not (now i))
              (λ i h. both (going i) (now i) (λ w. picked_by_home pick (would rule items ss) items i q h (picks_run (λ j. rule) items ss dual_named q l e) ∙ k.again i q w h z)),
        )

    preempted_all : (going new up up_new : ℕ → Bool) → Level rule frames items ss going new up up_new
        → many items (λ i. going i && not (now i)) ≤ many items new + count (length ss) (λ q. dual_named q && not (up q))
    preempted_all going new up up_new k =
        omega (
          arith,
          many_tally (length ss) items (λ i. going i && not (now i)) s.0,
          many_tally (length ss) items new s.0,
          sum_le (length ss) (λ q. tally items q (λ i. going i && not (now i))) (λ q. tally items q new + bit (dual_named q && not (up q))) (preempted_one going new up up_new k),
          sum_add (length ss) (λ q. tally items q new) (λ q. bit (dual_named q && not (up q))),
        )

    starts_homed : (up : ℕ → Bool) → count (length ss) (λ q. dual_named q && not (up q)) ≡ many (duals unit ss) (λ q. dual_named q && not (up q))
    starts_homed up =
        ap (λ n. count n (λ q. dual_named q && not (up q))) (sym (length_duals unit ss))
        ∙ sym (many_count (duals unit ss) (λ q. dual_named q && not (up q)) (λ q l e. named_home (always rule) unit (duals unit ss) above q (and_parts (dual_named q) (not (up q)) e).0))

    -- The server that picked a client runs.
    running : (x : Item) (p : IsPick pick x (clients items)) → dual_named p.server ≡ false
    running x p = (picks_parts (λ j. rule) items ss dual_named p.server p.place p.pick_is).1

    -- A client that goes on would be named again.
    named_again : (i : ℕ) → goes_on now items i ≡ true → (p : IsPick pick (item_at items i) (clients items)) → i < length items
        → would rule (spend_items now items) (spend_servers dual_named ss) p.server ≡ pick p.server
    named_again i g p l =
        let q : ℕ = p.server in
        let k : ℕ = p.place in
        let chosen : rule (server_at ss q).share (clients items q) ≡ Some k = (picks_parts (λ j. rule) items ss dual_named q k p.pick_is).2 in
        let in_list : k < length (clients items q) = (told_some rule law _ _ k chosen).1.0 in
        let server_is : server_at (spend_servers dual_named ss) q ≡ spend_server false (server_at ss q) =
        server_spent dual_named ss q (s.0 i q p.home_is) ∙ ap (λ b. spend_server b (server_at ss q)) (running (item_at items i) p) in
        let clients_are : clients (spend_items now items) q ≡ spent_at (clients items q) k = spend_clients pick items q ∙ ap (λ o. spent_by o (clients items q)) p.pick_is in
        let item_is : item_at (spend_items now items) i ≡ spend_item true (item_at items i) =
        item_spent now items i l ∙ ap (λ b. spend_item b (item_at items i)) (and_parts (now i) _ g).0 in
        let has : 1 ≤ (item_at items i).share.left - 1 = subst (λ x. 1 ≤ x.share.left) item_is (ltb-true 0 _ (and_parts (now i) _ g).1) in
        let left_is : at (spent_at (clients items q) k) k ≡ spent (item_at items i).share = get_or-set_same (clients items q) k (spent (at (clients items q) k)) nothing in_list ∙ ap spent p.client_is in
        rw (server_is, clients_are) (goes_on_law _ _ k chosen (subst (λ c. 1 ≤ c.left) (sym left_is) has) ∙ sym p.pick_is)

    in_range : (i q : ℕ) → (item_at items i).home ≡ Some q → i < length items
    in_range i q e = elim (cases_lt i (length items)) [
      | inl l ↦ l
      | inr l ↦ never_some q (sym (ap (λ x. x.home) (get_or_past items i no_item l)) ∙ e)
    ]

    level_after : Level rule frames (spend_items now items) (spend_servers dual_named ss) (goes_on now items) (λ i. false) (goes_on dual_named (duals unit ss)) (λ i. false)
    level_after = record {
      alone = λ q. omega (arith, tally_spent now items q (goes_on now items), tally_le items q (goes_on now items) now (λ i e. and_left (now i) _), tally_picked pick items q);
      apart = λ i q g e.
          let p : IsPick pick (item_at items i) (clients items) = is_pick pick items i (and_parts (now i) _ g).0 in
          let same : p.server ≡ q = same_some (sym p.home_is ∙ sym (home_spent now items i) ∙ e) in
          not_both (dual_named q) _ (λ w. both_ways (dual_named q) (subst (λ r. dual_named r ≡ false) same (running (item_at items i) p)) w);
      again = λ i q g e z.
          let p : IsPick pick (item_at items i) (clients items) = is_pick pick items i (and_parts (now i) _ g).0 in
          picked_spent now (would rule (spend_items now items) (spend_servers dual_named ss)) items i
          ∙ picked_by_home (would rule (spend_items now items) (spend_servers dual_named ss)) pick items i p.server p.home_is (named_again i g p (in_range i p.server p.home_is))
          ∙ (and_parts (now i) _ g).0;
      due = λ q l z.
          let m : q < length ss = rw length_servers_spent at l in
          ap (λ x. x.share.deadline) (server_spent dual_named ss q m) ∙ same_deadline (dual_named q) (server_at ss q)
          ∙ least_now unit frames t (server_at ss q) (clients items q) (s.1 q m) (f.0 q m)
          ∙ sym (ap (least_deadline frames) (spend_clients pick items q) ∙ least_deadline_at frames (pick q) (clients items q));
      charged = λ q l. omega arith;
    }

  pub marked_after : (items : List Item) (levels : List (List Server)) → SoundLevels unit frames t items levels → Fresh unit t levels
      → Marked rule unit frames (spend_items (named (always rule) unit items levels) items) (spend_levels (always rule) unit levels) (all_go_on rule unit items levels) (λ k i. false)
  marked_after items [] s f = tt
  marked_after items (ss ∷ above) s f = (
    level_after items ss above s f (ticked unit frames t (always rule) (λ k j. law) (duals unit ss) above s.2 f.1),
    rw duals_spent (marked_after (duals unit ss) above s.2 f.1),
  )

  -- The preemptions of one tick are paid for by the new jobs and by the duals that waited.
  pub preempted_paid : (items : List Item) (levels : List (List Server)) (going new : ℕ → ℕ → Bool) → SoundLevels unit frames t items levels
      → Fresh unit t levels
      → Marked rule unit frames items levels going new
      → many items (λ i. going 0 i && not (named (always rule) unit items levels i)) + potential unit (spend_levels (always rule) unit levels) (all_go_on rule unit items levels)
      ≤ new_jobs unit items levels new + potential unit levels going
  preempted_paid items [] going new s f k = omega (arith, many_none items (λ i. going 0 i && not false) s)
  preempted_paid items (ss ∷ above) going new s f k =
      let up : Ticked (always rule) unit frames t (duals unit ss) above = ticked unit frames t (always rule) (λ k j. law) (duals unit ss) above s.2 f.1 in
      omega (
        arith,
        preempted_all items ss above s f up (going 0) (new 0) (going 1) (new 1) k.0,
        starts_homed items ss above s f up (going 1),
        starts (duals unit ss) (named (always rule) unit (duals unit ss) above) (going 1) up.left,
        preempted_paid (duals unit ss) above (λ n. going (suc n)) (λ n. new (suc n)) s.2 f.1 k.1,
        ap (λ xs. waits xs (goes_on (named (always rule) unit (duals unit ss) above) (duals unit ss))) (duals_spent unit (named (always rule) unit (duals unit ss) above) ss),
      )
