-- As many items are named as their rates fill units, since each server that runs names one client. Assumes nothing.
use Rattle.std.proofs.Common.{◌≡◌, ℕ, zero, suc, ◌+◌, ◌-◌, ◌*◌, ◌<◌, ◌≤◌, Bool, true, false, cond, List, [], ◌∷◌, length, Some, None, Option, sym, refl, ap, ◌∙◌, add-mul, arith}
use Rattle.packing.specs.Packing.{at_home}
use Rattle.choosing.specs.declared.share.Share.{Share}
use Rattle.choosing.specs.Balance.{rates}
use Rattle.levels.specs.declared.item.Item.{Item}
use Rattle.levels.specs.declared.server.Server.{Server}
use Rattle.levels.specs.Sums.{sum_to, bit, count}
use Rattle.levels.specs.Items.{server_at, clients, duals, Homed, if_homed, item_rates}
use Rattle.levels.specs.Ticking.{Rules, AllLawful, next_level, server_runs, picks, is_first, takes, nearer, past, picked, named}
use Rattle.levels.specs.Soundness.{SoundLevels}
use Rattle.levels.specs.Theorems.{FullLevels}
use Rattle.levels.proofs.Answering.{told_some, never_none}
use Rattle.levels.proofs.Clients.{length_duals}
use Rattle.levels.proofs.Picks.{server_runs_from, server_rests, server_runs_parts, picks_run, picks_rest}
use Rattle.levels.proofs.Tick.{Fresh, server_left, ticked}
use Rattle.levels.proofs.Sums.{sum_ext, sum_add, sum_zero, sum_one, sum_ones}

-- ---- the rates of all clients are those of the items

rates_if : (b : Bool) (s : Share) (cs : List Share) → rates (cond b (s ∷ cs) cs) ≡ cond b s.rate 0 + rates cs
rates_if true s cs = refl
rates_if false s cs = omega arith

pub one_rate : (n : ℕ) (h : Option ℕ) (r : ℕ) → ((k : ℕ) → h ≡ Some k → k < n) → sum_to n (λ j. cond (at_home h j) r 0) ≡ if_homed h r
one_rate n None r g = sum_zero n
one_rate n (Some k) r g = sum_one n k (λ j. r) (g k refl)

pub client_rates : (n : ℕ) (xs : List Item) → Homed n xs → sum_to n (λ j. rates (clients xs j)) ≡ item_rates xs
client_rates n [] g = sum_zero n
client_rates n (x ∷ xs) g =
    sum_ext n _ (λ j. cond (at_home x.home j) x.share.rate 0 + rates (clients xs j)) (λ j l. rates_if (at_home x.home j) x.share (clients xs j))
    ∙ sum_add n (λ j. cond (at_home x.home j) x.share.rate 0) (λ j. rates (clients xs j))
    ∙ omega (arith, one_rate n x.home x.share.rate (λ k e. g 0 k e), client_rates n xs (λ i k e. g (suc i) k e))

-- ---- each pick of a client picks one item

hit : ℕ → List Share → ℕ
hit k [] = 0
hit zero (c ∷ cs) = 1
hit (suc k) (c ∷ cs) = hit k cs

hits : Option ℕ → List Share → ℕ
hits None cs = 0
hits (Some k) cs = hit k cs

hit_in : (k : ℕ) (cs : List Share) → k < length cs → hit k cs ≡ 1
unfolding hit
hit_in k [] h = absurd (omega arith)
hit_in zero (c ∷ cs) h = refl
hit_in (suc k) (c ∷ cs) h = hit_in k cs (omega arith)

hits_none : (o : Option ℕ) → hits o [] ≡ 0
unfolding hits hit
hits_none None = refl
hits_none (Some zero) = refl
hits_none (Some (suc k)) = refl

hits_if : (b : Bool) (o : Option ℕ) (s : Share) (cs : List Share)
    → hits o (cond b (s ∷ cs) cs) ≡ cond b (bit (is_first o)) 0 + hits (cond b (nearer o) o) cs
unfolding hits hit
hits_if true None s cs = refl
hits_if true (Some zero) s cs = refl
hits_if true (Some (suc k)) s cs = omega arith
hits_if false o s cs = omega arith

one_pick : (n : ℕ) (pick : ℕ → Option ℕ) (h : Option ℕ) → ((k : ℕ) → h ≡ Some k → k < n)
    → sum_to n (λ j. cond (at_home h j) (bit (is_first (pick j))) 0) ≡ bit (takes pick h)
one_pick n pick None g = sum_zero n
one_pick n pick (Some k) g = sum_one n k (λ j. bit (is_first (pick j))) (g k refl)

count_picked : (n : ℕ) (pick : ℕ → Option ℕ) (xs : List Item) → Homed n xs
    → count (length xs) (picked pick xs) ≡ sum_to n (λ j. hits (pick j) (clients xs j))
count_picked n pick [] g = sym (sum_ext n (λ j. hits (pick j) []) (λ j. 0) (λ j l. hits_none (pick j)) ∙ sum_zero n)
count_picked n pick (x ∷ xs) g =
    let split : sum_to n (λ j. hits (pick j) (clients (x ∷ xs) j)) ≡ sum_to n (λ j. cond (at_home x.home j) (bit (is_first (pick j))) 0 + hits (past pick x.home j) (clients xs j)) =
    sum_ext n _ _ (λ j l. hits_if (at_home x.home j) (pick j) x.share (clients xs j)) in
    let parts : sum_to n (λ j. cond (at_home x.home j) (bit (is_first (pick j))) 0 + hits (past pick x.home j) (clients xs j)) ≡
    sum_to n (λ j. cond (at_home x.home j) (bit (is_first (pick j))) 0) + sum_to n (λ j. hits (past pick x.home j) (clients xs j)) =
    sum_add n (λ j. cond (at_home x.home j) (bit (is_first (pick j))) 0) (λ j. hits (past pick x.home j) (clients xs j)) in
    sym (split ∙ parts ∙ omega (arith, one_pick n pick x.home (λ k e. g 0 k e), count_picked n (past pick x.home) xs (λ i k e. g (suc i) k e)))

-- The duals fill what the servers leave of their units.
pub duals_rates : (unit : ℕ) (ss : List Server)
    → ((j : ℕ) → j < length ss → ((server_at ss j).share.rate ≤ unit) × ((server_at ss j).home ≡ None → (server_at ss j).share.rate ≡ unit))
    → item_rates (duals unit ss) + sum_to (length ss) (λ j. (server_at ss j).share.rate) ≡ length ss * unit
duals_rates unit [] g = omega arith
duals_rates unit (s ∷ ss) g = omega (arith, duals_rates unit ss (λ j h. g (suc j) (omega arith)), one s.home refl)
  where
    one : (o : Option ℕ) → s.home ≡ o → if_homed o (unit - s.share.rate) + s.share.rate ≡ unit
    one None e = omega (arith, (g 0 (omega arith)).1 e)
    one (Some h) e = omega (arith, (g 0 (omega arith)).0)

module _ (unit frames t : ℕ) where
  -- One level, where the level above it is filled.
  module _ (rules : Rules) (law : AllLawful rules) (items : List Item) (ss : List Server) (above : List (List Server))
      (s : SoundLevels unit frames t items (ss ∷ above)) (f : Fresh unit t (ss ∷ above)) where
    abbrev dual_named : ℕ → Bool
    dual_named = named (next_level rules) unit (duals unit ss) above

    abbrev pick : ℕ → Option ℕ
    pick = picks (rules 0) items ss dual_named

    -- A server names one client, or its dual is named.
    one_each : (j : ℕ) → j < length ss → hits (pick j) (clients items j) + bit (dual_named j) ≡ 1
    unfolding hits
    one_each j l = go (dual_named j) refl
      where
        runs : dual_named j ≡ false → (o : Option ℕ) → rules 0 j (server_at ss j).share (clients items j) ≡ o → hits o (clients items j) + 0 ≡ 1
        runs e None g = absurd (never_none (rules 0 j) (law 0 j) _ _ (s.1 j l).loosely
            (server_left unit frames t rules law items ss above s f (ticked unit frames t (next_level rules) (λ k i. law (suc k) i) (duals unit ss) above s.2 f.1) j l e)
            (s.1 j l).few g)
        runs e (Some k) g = omega (arith, hit_in k (clients items j) (told_some (rules 0 j) (law 0 j) _ _ k g).1.0)

        go : (b : Bool) → dual_named j ≡ b → hits (pick j) (clients items j) + bit b ≡ 1
        go true e = rw (picks_rest (rules 0) items ss dual_named j e) refl
        go false e = rw (picks_run (rules 0) items ss dual_named j l e) (runs e (rules 0 j (server_at ss j).share (clients items j)) refl)

    -- As many servers run as have a dual that is not named.
    pub runners : count (length items) (picked pick items) + count (length ss) dual_named ≡ length ss
    runners =
        ap (λ c. c + count (length ss) dual_named) (count_picked (length ss) pick items s.0)
        ∙ sym (sum_add (length ss) (λ j. hits (pick j) (clients items j)) (λ j. bit (dual_named j)))
        ∙ sum_ext (length ss) _ (λ j. 1) one_each
        ∙ sum_ones (length ss)

    pub server_rates : sum_to (length ss) (λ j. (server_at ss j).share.rate) ≡ item_rates items
    server_rates = sum_ext (length ss) _ (λ j. rates (clients items j)) (λ j l. sym (s.1 j l).loosely.rated) ∙ client_rates (length ss) items s.0

    fill_level : count (length (duals unit ss)) dual_named * unit ≡ item_rates (duals unit ss)
        → count (length items) (picked pick items) * unit ≡ item_rates items
    fill_level up =
        let up' : count (length ss) dual_named * unit ≡ item_rates (duals unit ss) = rw length_duals at up in
        omega (
          arith,
          runners,
          up',
          server_rates,
          duals_rates unit ss (λ j l. ((s.1 j l).well_rated.within.1, (s.1 j l).well_rated.root)),
          add-mul (count (length items) (picked pick items)) (count (length ss) dual_named) unit,
          ap (λ n. n * unit) runners,
        )

  -- As many items are named as fill their rates.
  pub filled : (rules : Rules) → AllLawful rules → (items : List Item) (levels : List (List Server)) → SoundLevels unit frames t items levels
      → Fresh unit t levels → count (length items) (named rules unit items levels) * unit ≡ item_rates items
  filled rules law items [] s f = ap (λ n. n * unit) (sum_zero (length items)) ∙ omega arith ∙ client_rates 0 items s
  filled rules law items (ss ∷ above) s f = fill_level rules law items ss above s f (filled (next_level rules) (λ k j. law (suc k) j) (duals unit ss) above s.2 f.1)

-- ---- in each level as many servers run as their rates fill units

runs_or_not : (ss : List Server) (p : ℕ → Bool) (j : ℕ) → j < length ss → bit (server_runs ss p j) + bit (p j) ≡ 1
runs_or_not ss p j l = go (p j) refl
  where
    go : (b : Bool) → p j ≡ b → bit (server_runs ss p j) + bit b ≡ 1
    go true e = rw (server_rests ss p j e) refl
    go false e = rw (server_runs_from ss p j l e) refl

one_runs : (ss : List Server) (p : ℕ → Bool) → count (length ss) (server_runs ss p) + count (length ss) p ≡ length ss
one_runs ss p =
    sym (sum_add (length ss) (λ j. bit (server_runs ss p j)) (λ j. bit (p j)))
    ∙ sum_ext (length ss) (λ j. bit (server_runs ss p j) + bit (p j)) (λ j. 1) (runs_or_not ss p)
    ∙ sum_ones (length ss)

pub full_levels : (unit frames t : ℕ) (rules : Rules) → AllLawful rules → (items : List Item) (levels : List (List Server))
    → SoundLevels unit frames t items levels → Fresh unit t levels → FullLevels rules unit levels
full_levels unit frames t rules law items [] s f = tt
full_levels unit frames t rules law items (ss ∷ above) s f =
    let up_law : AllLawful (next_level rules) = λ k j. law (suc k) j in (
      λ j e. let (l, d) = server_runs_parts ss dual_named j e in
          server_left unit frames t rules law items ss above s f (ticked unit frames t (next_level rules) up_law (duals unit ss) above s.2 f.1) j l d,
      filling (filled unit frames t (next_level rules) up_law (duals unit ss) above s.2 f.1),
      full_levels unit frames t (next_level rules) up_law (duals unit ss) above s.2 f.1,
    )
  where
    dual_named : ℕ → Bool
    dual_named = named (next_level rules) unit (duals unit ss) above

    filling : count (length (duals unit ss)) dual_named * unit ≡ item_rates (duals unit ss)
        → count (length ss) (server_runs ss dual_named) * unit ≡ sum_to (length ss) (λ j. (server_at ss j).share.rate)
    filling e =
        let e' : count (length ss) dual_named * unit ≡ item_rates (duals unit ss) = rw length_duals at e in
        omega (
          arith,
          e',
          duals_rates unit ss (λ j l. ((s.1 j l).well_rated.within.1, (s.1 j l).well_rated.root)),
          ap (λ n. n * unit) (one_runs ss dual_named),
          add-mul (count (length ss) (server_runs ss dual_named)) (count (length ss) dual_named) unit,
        )
