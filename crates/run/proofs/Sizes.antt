-- How many levels there are and how many servers each has: few at an opening, and a tick changes none of it. Assumes nothing.
use Rattle.std.proofs.Common.{◌≡◌, ℕ, zero, suc, ◌/◌, ◌%◌, ◌≤◌, Bool, true, false, cond, eqb, Option, List, [], ◌∷◌, map, length, get_or, sym, refl, ap, ◌∙◌, ap₂, arith}
use Rattle.std.specs.List.{AllByRecursion}
use Rattle.std.proofs.lemmas.List.{length-map}
use Rattle.arrayvec.specs.ArrayVec.{ArrayVec}
use Rattle.packing.specs.Packing.{Packing}
use Rattle.packing.specs.Plan.{Sized}
use Rattle.levels.specs.declared.item.Item.{Item}
use Rattle.levels.specs.declared.server.Server.{Server}
use Rattle.levels.specs.Items.{duals}
use Rattle.levels.specs.Opening.{homes_in, servers_in, servers_of}
use Rattle.levels.specs.Renewing.{renew_levels, renew_servers}
use Rattle.levels.specs.Running as theory
use Rattle.levels.specs.Running.{Machine, announce, ready, step}
use Rattle.levels.specs.Ticking.{Rules, duals_named, next_level, spend_levels}
use Rattle.run.specs.declared.state.State.{State}
use Rattle.run.specs.Opened.{begin_idle, unbegun_server}
use Rattle.run.specs.Turns.{servers_at}
use Rattle.run.specs.Views.{level_servers, levels_of, no_level}
use Rattle.run.proofs.Levelled.{views}
use Rattle.run.proofs.Renewals.{length_renewed}
use Rattle.run.proofs.Spent.{length_servers_spent}
use Rattle.run.proofs.Written.{each_server, length_each}

abbrev pub sizes : List (List Server) → List ℕ
sizes levels = map length levels

-- ---- of the tables

size_at : (ls : List (ArrayVec Server)) (k : ℕ) → length (get_or ls k no_level).items ≡ get_or (sizes (views ls)) k 0
size_at [] k = refl
size_at (l ∷ ls) zero = refl
size_at (l ∷ ls) (suc k) = size_at ls k

module _ (s : State) (ns : List ℕ) (same : sizes (levels_of s) ≡ ns) where
  pub level_count : length s.levels.items ≡ length ns
  level_count = sym (length-map s.levels.items level_servers) ∙ sym (length-map (levels_of s) length) ∙ ap length same

  pub server_count : (k : ℕ) → length (servers_at s k) ≡ get_or ns k 0
  server_count k = size_at s.levels.items k ∙ ap (λ l. get_or l k 0) same

-- ---- at an opening

-- idle tasks begin their jobs, and no level changes
pub levels_begun : (frames i : ℕ) (rates : List ℕ) (st : theory.State) → (begin_idle frames i rates st).levels ≡ st.levels
levels_begun frames i [] st = refl
levels_begun frames i (rate ∷ rates) st = levels_begun frames (suc i) rates (announce i frames st)

pub few_planned : (bounds : List ℕ) (plan : List Packing) → Sized bounds plan → length (sizes (servers_in plan)) ≤ length bounds
few_planned bounds [] fits = omega arith
few_planned [] (l ∷ above) fits = absurd fits
few_planned (n ∷ bounds) (l ∷ above) fits = omega (arith, few_planned bounds above fits.1)

planned_size : (rates : List ℕ) (homes : List (Option ℕ)) → length (servers_of rates homes) ≡ length rates
planned_size rates homes = sym (ap length (each_server rates homes)) ∙ length_each unbegun_server rates homes

pub small_planned : (bounds : List ℕ) (plan : List Packing) (k : ℕ) → AllByRecursion (λ n. n ≤ 31) bounds → Sized bounds plan → get_or (sizes (servers_in plan)) k 0 ≤ 31
small_planned bounds [] k small fits = omega arith
small_planned [] (l ∷ above) k small fits = absurd fits
small_planned (n ∷ bounds) (l ∷ above) zero small fits = omega (arith, planned_size l.rates (homes_in above), small.0, fits.0)
small_planned (n ∷ bounds) (l ∷ above) (suc k) small fits = small_planned bounds above k small.1 fits.1

-- ---- in a tick

sizes_renewed : (unit frames f : ℕ) (items : List Item) (levels : List (List Server)) → sizes (renew_levels unit frames f items levels) ≡ sizes levels
sizes_renewed unit frames f items [] = refl
sizes_renewed unit frames f items (ss ∷ above) =
    ap₂ (λ n ns. n ∷ ns) (length_renewed unit frames f items 0 ss) (sizes_renewed unit frames f (duals unit (renew_servers unit frames f items 0 ss)) above)

sizes_spent : (rules : Rules) (unit : ℕ) (levels : List (List Server)) → sizes (spend_levels rules unit levels) ≡ sizes levels
sizes_spent rules unit [] = refl
sizes_spent rules unit (ss ∷ above) = ap₂ (λ n ns. n ∷ ns) (length_servers_spent (duals_named rules unit ss above) ss) (sizes_spent (next_level rules) unit above)

sizes_either : (b : Bool) (new old : List (List Server)) → sizes new ≡ sizes old → sizes (cond b new old) ≡ sizes old
sizes_either true new old same = same
sizes_either false new old same = refl

pub sizes_stepped : (rules : Rules) (m : Machine) (st : theory.State) → sizes (step rules m st).levels ≡ sizes st.levels
sizes_stepped rules m st =
    let new = renew_levels m.unit m.frames (st.tick / m.unit) st.tasks st.levels in
    sizes_spent rules m.unit (ready m st)
    ∙ sizes_either (eqb (st.tick % m.unit) 0) new st.levels (sizes_renewed m.unit m.frames (st.tick / m.unit) st.tasks st.levels)
