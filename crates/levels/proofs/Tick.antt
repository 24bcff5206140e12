-- The running part of a tick keeps every level sound, and what it names has left. Assumes nothing.
use Rattle.std.proofs.Common.{◌≡◌, ℕ, suc, ◌+◌, ◌-◌, ◌*◌, ◌<◌, ◌≤◌, Bool, true, false, List, [], ◌∷◌, length, Some, None, Option, refl, ap, ◌∙◌, subst, inl, inr, mul-le-mul_right, arith, length-set}
use Rattle.choosing.specs.declared.share.Share.{Share}
use Rattle.choosing.specs.Balance.{SomeAt, Balanced, spent, spent_at}
use Rattle.choosing.specs.Choosing.{Rule, Lawful}
use Rattle.choosing.specs.Demands.{span}
use Rattle.levels.specs.declared.item.Item.{Item}
use Rattle.levels.specs.declared.server.Server.{Server}
use Rattle.levels.specs.Items.{item_at, server_at, clients, dual_of, duals, Homed}
use Rattle.levels.specs.Ticking.{Rules, AllLawful, next_level, picks, picked, named, spend_item, spend_items, spend_server, spend_servers, spend_levels}
use Rattle.levels.specs.Renewing.{least_deadline}
use Rattle.levels.specs.Soundness.{Kept, SoundLevels}
use Rattle.levels.proofs.Never.{never_true}
use Rattle.levels.proofs.Members.{Among, among_from, among_left}
use Rattle.levels.proofs.Least.{some_at_least}
use Rattle.levels.proofs.Answering.{told_some, never_none}
use Rattle.levels.proofs.Clients.{among_clients, spent_by, spend_clients, IsPick, is_pick, item_spent, home_spent, server_spent, length_servers_spent, duals_spent, dual_at, length_duals, dual_home}
use Rattle.levels.proofs.Picks.{picks_run, picks_rest, picks_parts}

module _ (unit frames t : ℕ) where
  -- No item has more left than the time up to its deadline.
  pub left_in_time : (items : List Item) (levels : List (List Server)) → SoundLevels unit frames t items levels → (i h : ℕ)
      → (item_at items i).home ≡ Some h
      → (item_at items i).share.left + t ≤ unit * (item_at items i).share.deadline
  left_in_time items [] s i h e = absurd (omega (arith, s i h e))
  left_in_time items (ss ∷ above) s i h e =
      let x : Share = (item_at items i).share in
      let k : Kept unit frames t (server_at ss h) (clients items h) = s.1 h (s.0 i h e) in
      let d : ℕ = (server_at ss h).share.deadline in
      let m : Among x (clients items h) = among_clients items i h e in
      let l : d ≤ x.deadline = among_from d m k.loosely.none_before in
      omega (arith, among_left m k.loosely, k.split, mul-le-mul_right (x.deadline - d) k.well_rated.within.1, span unit d x.deadline l)

  -- After the renewal the server and its clients are balanced.
  met_now : (s : Server) (cs : List Share) → Kept unit frames t s cs → t < unit * s.share.deadline → SomeAt s.share.deadline cs
  met_now s cs k f = elim k.least [ inl e ↦ e | inr e ↦ absurd (omega arith) ]

  pub balanced_now : (s : Server) (cs : List Share) → Kept unit frames t s cs → t < unit * s.share.deadline → Balanced s.share cs
  balanced_now s cs k f = record { loosely = k.loosely; some_at = met_now s cs k f }

  pub least_now : (s : Server) (cs : List Share) → Kept unit frames t s cs → t < unit * s.share.deadline
      → s.share.deadline ≡ least_deadline frames cs
  least_now s cs k f = some_at_least frames s.share.deadline cs k.within k.loosely.none_before (met_now s cs k f)

  -- A server whose dual runs.
  kept_rested : (s : Server) (cs : List Share) → Kept unit frames t s cs → t < unit * s.share.deadline → 1 ≤ s.dual
      → Kept unit frames (suc t) (spend_server true s) cs
  kept_rested s cs k f h = record {
    loosely = k.loosely;
    well_rated = k.well_rated;
    split = omega (arith, k.split);
    root_dual = λ e. omega (arith, k.root_dual e);
    least = inl (met_now s cs k f);
    within = k.within;
    few = k.few;
  }

  -- A server that runs.
  kept_ran : (rule : Rule) → Lawful rule → (s : Server) (cs : List Share) → Kept unit frames t s cs → t < unit * s.share.deadline
      → 1 ≤ s.share.left
      → Kept unit frames (suc t) (spend_server false s) (spent_by (rule s.share cs) cs)
  kept_ran rule law s cs k f h = go (rule s.share cs) refl
    where
      after : (n : ℕ) → rule s.share cs ≡ Some n → Balanced (spent s.share) (spent_at cs n)
      after n e = (told_some rule law s.share cs n e).2 (balanced_now s cs k f) h

      go : (o : Option ℕ) → rule s.share cs ≡ o → Kept unit frames (suc t) (spend_server false s) (spent_by o cs)
      go None e = absurd (never_none rule law s.share cs k.loosely h k.few e)
      go (Some n) e = record {
        loosely = (after n e).loosely;
        well_rated = k.well_rated;
        split = omega (arith, k.split);
        root_dual = k.root_dual;
        least = inl (after n e).some_at;
        within = k.within;
        few = rw length-set k.few;
      }

-- No server is due.
abbrev pub Fresh : ℕ → ℕ → List (List Server) → Type 0
Fresh unit t [] = Unit {0}
Fresh unit t (ss ∷ above) = ((j : ℕ) → j < length ss → t < unit * (server_at ss j).share.deadline) × Fresh unit t above

-- What a tick does from these items up.
pub record Ticked (rules : Rules) (unit frames t : ℕ) (items : List Item) (levels : List (List Server)) : Type 0 where
  pub left : (i : ℕ) → named rules unit items levels i ≡ true → 1 ≤ (item_at items i).share.left
  pub sound : SoundLevels unit frames (suc t) (spend_items (named rules unit items levels) items) (spend_levels rules unit levels)

homed_spent : (n : ℕ) (named : ℕ → Bool) (items : List Item) → Homed n items → Homed n (spend_items named items)
homed_spent n named items f i h e = f i h (rw home_spent at e)

module _ (unit frames t : ℕ) where
  -- One level, where the level above it has ticked.
  module _ (rules : Rules) (law : AllLawful rules) (items : List Item) (ss : List Server) (above : List (List Server))
      (s : SoundLevels unit frames t items (ss ∷ above)) (f : Fresh unit t (ss ∷ above))
      (up : Ticked (next_level rules) unit frames t (duals unit ss) above) where
    abbrev dual_named : ℕ → Bool
    dual_named = named (next_level rules) unit (duals unit ss) above

    abbrev server : ℕ → Server
    server j = server_at ss j

    pub dual_left : (j : ℕ) → j < length ss → dual_named j ≡ true → 1 ≤ (server j).dual
    dual_left j h e = subst (λ x. 1 ≤ x.share.left) (dual_at unit ss j h) (up.left j e)

    -- A dual that did not run, and has a home, still has time for its server to run.
    dual_waits : (j h : ℕ) → j < length ss → dual_named j ≡ false → (server j).home ≡ Some h
        → (server j).dual + suc t ≤ unit * (server j).share.deadline
    dual_waits j h l e g =
        let same : item_at (spend_items dual_named (duals unit ss)) j ≡ dual_of unit (server j) =
        item_spent dual_named (duals unit ss) j (rw length_duals l) ∙ ap (λ b. spend_item b (item_at (duals unit ss) j)) e ∙ dual_at unit ss j l in
        subst (λ x. x.share.left + suc t ≤ unit * x.share.deadline) same
        (left_in_time unit frames (suc t) _ _ up.sound j h (home_spent dual_named (duals unit ss) j ∙ dual_home unit ss j ∙ g))

    -- A server that runs has left.
    pub server_left : (j : ℕ) → j < length ss → dual_named j ≡ false → 1 ≤ (server j).share.left
    server_left j l e = go (server j).home refl
      where
        go : (o : Option ℕ) → (server j).home ≡ o → 1 ≤ (server j).share.left
        go None g = omega (arith, (s.1 j l).split, (s.1 j l).root_dual g, f.0 j l)
        go (Some h) g = omega (arith, (s.1 j l).split, dual_waits j h l e g)

    abbrev pick : ℕ → Option ℕ
    pick = picks (rules 0) items ss dual_named

    client_left : (i : ℕ) → IsPick pick (item_at items i) (clients items) → 1 ≤ (item_at items i).share.left
    client_left i p =
        let (l, d, o) = picks_parts (rules 0) items ss dual_named p.server p.place p.pick_is in
        subst (λ c. 1 ≤ c.left) p.client_is (told_some (rules 0 p.server) (law 0 p.server) _ _ p.place o).1.1

    kept_after : (j : ℕ) → j < length (spend_servers dual_named ss)
        → Kept unit frames (suc t) (server_at (spend_servers dual_named ss) j) (clients (spend_items (picked pick items) items) j)
    kept_after j h =
        let l : j < length ss = rw length_servers_spent at h in
        rw (server_spent dual_named ss j l, spend_clients pick items j) (go l (dual_named j) refl)
      where
        go : j < length ss → (b : Bool) → dual_named j ≡ b
            → Kept unit frames (suc t) (spend_server b (server j)) (spent_by (pick j) (clients items j))
        go l true e = rw (picks_rest (rules 0) items ss dual_named j e) (kept_rested unit frames t (server j) (clients items j) (s.1 j l) (f.0 j l) (dual_left j l e))
        go l false e = rw (picks_run (rules 0) items ss dual_named j l e)
            (kept_ran unit frames t (rules 0 j) (law 0 j) (server j) (clients items j) (s.1 j l) (f.0 j l) (server_left j l e))

    tick_level : Ticked rules unit frames t items (ss ∷ above)
    tick_level = record {
      left = λ i e. client_left i (is_pick pick items i e);
      sound = (rw length_servers_spent (homed_spent (length ss) (picked pick items) items s.0), kept_after, rw duals_spent up.sound);
    }

  pub ticked : (rules : Rules) → AllLawful rules → (items : List Item) (levels : List (List Server)) → SoundLevels unit frames t items levels
      → Fresh unit t levels → Ticked rules unit frames t items levels
  ticked rules law items [] s f = record { left = λ i e. never_true e; sound = homed_spent 0 _ items s }
  ticked rules law items (ss ∷ above) s f = tick_level rules law items ss above s f (ticked (next_level rules) (λ k j. law (suc k) j) (duals unit ss) above s.2 f.1)
