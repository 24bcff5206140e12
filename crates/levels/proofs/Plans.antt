-- The plan of a lawful fitting rule opens a run. Assumes nothing.
use Rattle.std.proofs.Common.{◌≡◌, ℕ, zero, suc, ◌+◌, ◌-◌, ◌<◌, ◌≤◌, Bool, true, false, cond, ◌⊎◌, List, [], ◌∷◌, length, get_or, drop, Some, None, sum, Option, sym, refl, ap, ◌∙◌, subst, inl, inr, arith}
use lib.ListN.{length-map}
use Rattle.std.specs.List.{AllByRecursion}
use Rattle.std.proofs.lemmas.List.{get_or_past, get_or-map}
use Rattle.std.proofs.ByRecursion.{All-get_or}
use Rattle.std.proofs.lemmas.List.Sums.{sum_by-cons}
use Rattle.std.proofs.lemmas.Bool.{cases_lt, cases_eq}
use Rattle.packing.specs.Packing.{Packing, at_home, Within}
use Rattle.packing.specs.Plan.{IsPlan, Sized, OneSmallPlan}
use Rattle.packing.proofs.Plans.{one_small_plan}
use Rattle.choosing.specs.declared.share.Share.{Share}
use Rattle.choosing.specs.Balance.{rates}
use Rattle.levels.specs.Items.{no_item, item_at, server_at, clients, duals, Homed, if_homed, item_rates}
use Rattle.levels.specs.Opening.{unbegun, items_of, servers_of, homes_in, servers_in, Planned, PlannedLevels, Housed, FewServers}
use Rattle.levels.specs.Theorems.{EveryPlanOpens}
use Rattle.levels.proofs.Never.{never_some, same_some}
use Rattle.levels.proofs.States.{UnbegunItems}
use Rattle.packing.specs.Packing.{Sound as SoundPacking, clients as client_rates_in}
use Rattle.packing.specs.Plan.{SoundLevels as SoundPackings, duals as dual_rates}
use Rattle.packing.specs.Fitting.{Rule as Fitting}

-- ---- items and servers by place

drop_one : (hs : List (Option ℕ)) (i : ℕ) → get_or (drop 1 hs) i None ≡ get_or hs (suc i) None
drop_one [] i = refl
drop_one (h ∷ hs) i = refl

length_items : (rs : List ℕ) (hs : List (Option ℕ)) → length (items_of rs hs) ≡ length rs
length_items [] hs = refl
length_items (r ∷ rs) hs = ap suc (length_items rs (drop 1 hs))

item_home : (rs : List ℕ) (hs : List (Option ℕ)) (i : ℕ) → i < length rs → (item_at (items_of rs hs) i).home ≡ get_or hs i None
item_home [] hs i l = absurd (omega arith)
item_home (r ∷ rs) hs zero l = refl
item_home (r ∷ rs) hs (suc i) l = item_home rs (drop 1 hs) i (omega arith) ∙ drop_one hs i

no_home : (rs : List ℕ) (i : ℕ) → (item_at (items_of rs []) i).home ≡ None
no_home [] i = refl
no_home (r ∷ rs) zero = refl
no_home (r ∷ rs) (suc i) = no_home rs i

unbegun_items : (rs : List ℕ) (hs : List (Option ℕ)) → UnbegunItems (items_of rs hs)
unbegun_items [] hs i l = absurd (omega arith)
unbegun_items (r ∷ rs) hs zero l = (refl, refl)
unbegun_items (r ∷ rs) hs (suc i) l = unbegun_items rs (drop 1 hs) i (omega arith)

length_servers : (rs : List ℕ) (hs : List (Option ℕ)) → length (servers_of rs hs) ≡ length rs
length_servers [] hs = refl
length_servers (r ∷ rs) hs = ap suc (length_servers rs (drop 1 hs))

server_is : (rs : List ℕ) (hs : List (Option ℕ)) (j : ℕ) → j < length rs → server_at (servers_of rs hs) j ≡ record { share = unbegun (get_or rs j 0); dual = 0; home = get_or hs j None }
server_is [] hs j l = absurd (omega arith)
server_is (r ∷ rs) hs zero l = refl
server_is (r ∷ rs) hs (suc j) l = server_is rs (drop 1 hs) j (omega arith) ∙ ap (λ h. record { share = unbegun (get_or rs j 0); dual = 0; home = h }) (drop_one hs j)

-- The duals of the servers are the items of the next level.
duals_are : (unit : ℕ) (rs : List ℕ) (hs : List (Option ℕ)) → duals unit (servers_of rs hs) ≡ items_of (dual_rates unit rs) hs
duals_are unit [] hs = refl
duals_are unit (r ∷ rs) hs = ap (λ xs. record { share = unbegun (unit - r); home = get_or hs 0 None } ∷ xs) (duals_are unit rs (drop 1 hs))

-- The clients of a server have the rates of the items whose home it is.
clients_rated : (rs : List ℕ) (hs : List (Option ℕ)) (j : ℕ) → rates (clients (items_of rs hs) j) ≡ sum (client_rates_in hs rs j)
clients_rated [] [] j = refl
clients_rated [] (h ∷ hs) j = refl
clients_rated (r ∷ rs) [] j = clients_rated rs [] j
clients_rated (r ∷ rs) (h ∷ hs) j = one (at_home h j) (clients_rated rs hs j)
  where
    cs : List Share
    cs = clients (items_of rs hs) j

    one : (b : Bool) → rates cs ≡ sum (client_rates_in hs rs j)
        → rates (cond b (unbegun r ∷ cs) cs) ≡ sum (cond b (r ∷ client_rates_in hs rs j) (client_rates_in hs rs j))
    one true e = ap (λ n. r + n) e ∙ sym (sum_by-cons (λ n. n) r (client_rates_in hs rs j))
    one false e = e

-- ---- one level

module _ (unit : ℕ) (items : List ℕ) (p : Packing) (s : SoundPacking unit items p) where
  homed : (over : List (Option ℕ)) → Homed (length (servers_of p.rates over)) (items_of items p.homes)
  homed over i h e = elim (cases_lt i (length items)) [
    | inl l ↦ inside l (sym (item_home items p.homes i l) ∙ e) (cases_eq (get_or items i 0) 0)
    | inr l ↦ never_some h (sym (ap (λ x. x.home) (get_or_past (items_of items p.homes) i no_item (omega (arith, length_items items p.homes)))) ∙ e)
  ]
    where
      inside : i < length items → get_or p.homes i None ≡ Some h → (get_or items i 0 ≡ 0) ⊎ (get_or items i 0 ≡ 0 → ⊥)
          → h < length (servers_of p.rates over)
      inside l g (inl z) = never_some h (sym (s.unhoused i l z) ∙ g)
      inside l g (inr n) = let (j, q, m) = s.housed i l n in omega (arith, same_some (sym q ∙ g), length_servers p.rates over)

  planned : (over : List (Option ℕ)) → ((j : ℕ) → j < length p.rates → get_or over j None ≡ None → get_or p.rates j 0 ≡ unit)
      → ((j : ℕ) → j < length p.rates → get_or p.rates j 0 ≡ unit → get_or over j None ≡ None)
      → (j : ℕ) → j < length (servers_of p.rates over) → Planned unit (server_at (servers_of p.rates over) j) (clients (items_of items p.homes) j)
  planned over root full j m =
      let l : j < length p.rates = rw length_servers at m in
      subst (λ x. Planned unit x (clients (items_of items p.homes) j)) (sym (server_is p.rates over j l)) (record {
        rated = clients_rated items p.homes j ∙ sym (s.loads j);
        well_rated = record { within = All-get_or (Within unit) p.rates j 0 l s.within; root = root j l; full = full j l };
        unspent = (refl, refl, refl);
      })

  all_housed : AllByRecursion (Within unit) items → Housed (items_of items p.homes)
  all_housed w i m =
      let l : i < length items = rw length_items at m in
      let some : 1 ≤ get_or items i 0 = (All-get_or (Within unit) items i 0 l w).0 in
      let (j, q, _) = s.housed i l (λ z. omega arith) in
      (j, item_home items p.homes i l ∙ q)

-- The next level houses the duals of all servers but the roots.
module _ (unit : ℕ) (rs : List ℕ) (within : AllByRecursion (Within unit) rs) (over : Packing) (up : SoundPacking unit (dual_rates unit rs) over) (j : ℕ)
    (l : j < length rs) where
  dual_rate : get_or (dual_rates unit rs) j 0 ≡ unit - get_or rs j 0
  dual_rate = get_or-map (λ x. unit - x) rs j 0 0 l

  dual_in : j < length (dual_rates unit rs)
  dual_in = omega (arith, length-map rs (λ x. unit - x))

  rooted : get_or over.homes j None ≡ None → get_or rs j 0 ≡ unit
  rooted e = elim (cases_eq (get_or (dual_rates unit rs) j 0) 0) [
    | inl z ↦ omega (arith, dual_rate, (All-get_or (Within unit) rs j 0 l within).1)
    | inr n ↦ let (k, q, _) = up.housed j dual_in n in never_some k (sym e ∙ q)
  ]

  unrooted : get_or rs j 0 ≡ unit → get_or over.homes j None ≡ None
  unrooted e = up.unhoused j dual_in (dual_rate ∙ omega arith)

-- ---- all levels

module _ (fit : Fitting) (unit : ℕ) where
  planned_levels : (items : List ℕ) (plan : List Packing) → IsPlan fit unit items plan → SoundPackings unit items plan
      → PlannedLevels unit (items_of items (homes_in plan)) (servers_in plan)
  planned_levels items [] p s = absurd p
  planned_levels items (l ∷ []) p s = (
    homed unit items l s.0 [],
    planned unit items l s.0 [] (λ j h e. All-get_or (λ x. x ≡ unit) l.rates j 0 h p.1) (λ j h e. refl),
    rw duals_are (λ i h e. never_some h (sym (no_home (dual_rates unit l.rates) i) ∙ e)),
  )
  planned_levels items (l ∷ over ∷ above) p s = (
    homed unit items l s.0 over.homes,
    planned unit items l s.0 over.homes (rooted unit l.rates s.0.within over s.1.0) (unrooted unit l.rates s.0.within over s.1.0),
    rw duals_are (planned_levels (dual_rates unit l.rates) (over ∷ above) p.2 s.1),
  )

  plan_housed : (items : List ℕ) (plan : List Packing) → IsPlan fit unit items plan → SoundPackings unit items plan → AllByRecursion (Within unit) items
      → Housed (items_of items (homes_in plan))
  plan_housed items [] p s w = absurd p
  plan_housed items (l ∷ above) p s w = all_housed unit items l s.0 w

plan_few : (bounds : List ℕ) (plan : List Packing) → AllByRecursion (λ n. n ≤ 31) bounds → Sized bounds plan → FewServers (servers_in plan)
plan_few bounds [] b s = tt
plan_few [] (l ∷ above) b s = absurd s
plan_few (n ∷ bounds) (l ∷ above) b s = (omega (arith, length_servers l.rates (homes_in above), b.0, s.0), plan_few bounds above b.1 s.1)

-- Items that all have a home fill what their rates sum to.
housed_rates : (rs : List ℕ) (hs : List (Option ℕ)) → Housed (items_of rs hs) → item_rates (items_of rs hs) ≡ sum rs
housed_rates [] hs h = refl
housed_rates (r ∷ rs) hs h =
    let (k, e) = h 0 (omega arith) in
    omega (arith, ap (λ o. if_homed o r) e, housed_rates rs (drop 1 hs) (λ i l. h (suc i) (omega arith)), sum_by-cons (λ n. n) r rs)

pub every_plan_opens : EveryPlanOpens
every_plan_opens fit law m tasks full few plan p =
    let small : OneSmallPlan fit m.unit m.cores tasks = one_small_plan fit law m.unit m.cores tasks full in
    let same : small.levels ≡ plan = sym (small.only plan p) in
    let sound : SoundPackings m.unit tasks plan = subst (SoundPackings m.unit tasks) same small.sound in
    let housed : Housed (items_of tasks (homes_in plan)) = plan_housed fit m.unit tasks plan p sound full.within in
    record {
      now = refl;
      planned = planned_levels fit m.unit tasks plan p sound;
      housed = housed;
      unbegun_tasks = unbegun_items tasks (homes_in plan);
      fills = housed_rates tasks (homes_in plan) housed ∙ full.full;
      a_unit = full.a_unit;
      few = rw length_items few;
      few_servers = plan_few (31 ∷ 16 ∷ 8 ∷ 4 ∷ 2 ∷ []) plan (omega arith, (omega arith, (omega arith, (omega arith, (omega arith, tt))))) (subst (Sized (31 ∷ 16 ∷ 8 ∷ 4 ∷ 2 ∷ [])) same small.sized);
    }
