-- Every state of a run is sound, and what follows from it. Assumes nothing.
use Rattle.std.proofs.Common.{◌≡◌, ℕ, zero, suc, ◌+◌, ◌-◌, ◌*◌, ◌/◌, ◌%◌, ◌<◌, ◌≤◌, Bool, true, false, cond, eqb, ◌⊎◌, List, [], ◌∷◌, length, set, Some, sym, refl, ap, ◌∙◌, subst, inl, inr, mul-le-mul_right, arith, length-set}
use native.Mathlib.Nat.{mul-mod_right}
use Rattle.std.specs.List.{AllByRecursion}
use Rattle.std.proofs.lemmas.List.{get_or-set_same, get_or-set_other}
use Rattle.std.proofs.lemmas.Bool.{eqb-false, cases_lt, cases_eq, cases_order}
use Rattle.packing.specs.Packing.{at_home}
use Rattle.choosing.specs.declared.share.Share.{Share}
use Rattle.choosing.specs.Balance.{demand, rates, NoneBefore, Balanced}
use Rattle.choosing.specs.Demands.{client_demand_from, loosely}
use Rattle.levels.specs.declared.item.Item.{Item}
use Rattle.levels.specs.declared.server.Server.{Server}
use Rattle.levels.specs.Sums.{count}
use Rattle.levels.specs.Items.{no_item, item_at, server_at, clients, duals, level_at, packed, if_homed, item_rates}
use Rattle.levels.specs.Ticking.{Rules, AllLawful, named, spend_if, spend_items}
use Rattle.levels.specs.Renewing.{renew_levels}
use Rattle.levels.specs.Running.{Machine, State, task, item_with_job, announce, ready, runs, step}
use Rattle.levels.specs.Opening.{Planned, PlannedLevels, FewServers, IsOpening}
use Rattle.levels.specs.Reaching.{Announces, Goes, opens, announces, ticks}
use Rattle.levels.specs.Soundness.{Kept, SoundLevels, Sound}
use Rattle.levels.specs.Theorems.{EveryStateIsSound, RulesAreAskedInBalance, EveryTickIsFull, EveryLevelIsFull, NoDeadlineIsMissed}
use Rattle.levels.proofs.Jobs.{Renewed}
use Rattle.levels.proofs.Clients.{length_spent, item_spent, home_spent, dual_at, length_duals}
use Rattle.levels.proofs.Tick.{left_in_time, balanced_now, Fresh, Ticked, ticked}
use Rattle.levels.proofs.Frame.{frame_start, frame_below, RenewedItems, end, next, all_clients, announced, renewed}
use Rattle.levels.proofs.Filling.{filled, full_levels}

-- ---- the opening

abbrev pub Unbegun : Share → Type 0
Unbegun c = (c.left ≡ 0) × (c.deadline ≡ 0)

abbrev pub UnbegunItems : List Item → Type 0
UnbegunItems xs = (i : ℕ) → i < length xs → Unbegun (item_at xs i).share

unbegun_demand : (cs : List Share) (D : ℕ) → AllByRecursion Unbegun cs → demand cs D ≡ rates cs * D
unbegun_demand [] D r = omega arith
unbegun_demand (c ∷ cs) D r =
    omega (arith, unbegun_demand cs D r.1, client_demand_from c D (omega (arith, r.0.1)), r.0.0, ap (λ d. c.rate * (D - d)) r.0.1, ap (λ n. c.rate * n) (all D))
  where
    all : (n : ℕ) → n - 0 ≡ n
    all n = omega arith

none_before_0 : (cs : List Share) → NoneBefore 0 cs
none_before_0 [] = tt
none_before_0 (c ∷ cs) = (omega arith, none_before_0 cs)

opening_kept : (unit frames t : ℕ) (s : Server) (cs : List Share) → t ≡ 0 → Planned unit s cs → AllByRecursion Unbegun cs → length cs ≤ 80
    → Kept unit frames t s cs
opening_kept unit frames t s cs z p r few = record {
  loosely = loosely s.share cs p.rated (rw p.unspent.1 (none_before_0 cs)) (λ D h. omega (arith, even D)) (λ D h l. even D);
  well_rated = p.well_rated;
  split = omega (arith, p.unspent.0, p.unspent.2, zero_deadline);
  root_dual = λ h. p.unspent.2;
  least = inr (omega (arith, zero_deadline));
  within = omega (arith, p.unspent.1);
  few = few;
}
  where
    zero_deadline : unit * s.share.deadline ≡ 0
    zero_deadline = ap (λ d. unit * d) p.unspent.1 ∙ omega arith

    even : (D : ℕ) → demand cs D ≡ s.share.left + s.share.rate * (D - s.share.deadline)
    even D = unbegun_demand cs D r ∙ omega (arith, ap (λ a. a * D) p.rated, p.unspent.0, ap (λ d. s.share.rate * d) same)
      where
        same : D - s.share.deadline ≡ D
        same = omega (arith, p.unspent.1)

pub unbegun_duals : (unit : ℕ) (ss : List Server) → ((j : ℕ) → j < length ss → ((server_at ss j).dual ≡ 0) × ((server_at ss j).share.deadline ≡ 0))
    → UnbegunItems (duals unit ss)
unbegun_duals unit ss g i h = let l : i < length ss = rw length_duals at h in rw (dual_at unit ss i l) (g i l)

few_clients : (xs : List Item) (j : ℕ) → length (clients xs j) ≤ length xs
few_clients [] j = omega arith
few_clients (x ∷ xs) j = omega (arith, one (at_home x.home j), few_clients xs j)
  where
    one : (b : Bool) → length (cond b (x.share ∷ clients xs j) (clients xs j)) ≤ suc (length (clients xs j))
    one true = omega arith
    one false = omega arith

opening_sound : (unit frames t : ℕ) (items : List Item) (levels : List (List Server)) → t ≡ 0 → PlannedLevels unit items levels
    → UnbegunItems items → length items ≤ 80 → FewServers levels → SoundLevels unit frames t items levels
opening_sound unit frames t items [] z p r n f = p
opening_sound unit frames t items (ss ∷ above) z p r n f = (
  p.0,
  λ j l. opening_kept unit frames t (server_at ss j) (clients items j) z (p.1 j l) (all_clients Unbegun items j r) (omega (arith, few_clients items j)),
  opening_sound unit frames t (duals unit ss) above z p.2 (unbegun_duals unit ss (λ j l. ((p.1 j l).unspent.2, (p.1 j l).unspent.1))) (rw length_duals (omega (arith, f.0))) f.1,
)

-- ---- an announcement

pub all_same : (f : ℕ) (xs : List Item) → RenewedItems f xs xs
all_same f [] = end
all_same f (x ∷ xs) = next refl (inl refl) (all_same f xs)

pub renewed_set : (f : ℕ) (xs : List Item) (i : ℕ) (y : Item) → y.home ≡ (item_at xs i).home → Renewed f (item_at xs i).share y.share
    → RenewedItems f xs (set xs i y)
renewed_set f [] i y h r = end
renewed_set f (x ∷ xs) zero y h r = next h r (all_same f xs)
renewed_set f (x ∷ xs) (suc i) y h r = next refl (inl refl) (renewed_set f xs i y h r)

same_rates : (xs : List Item) (i : ℕ) (y : Item) → y.home ≡ (item_at xs i).home → y.share.rate ≡ (item_at xs i).share.rate
    → item_rates (set xs i y) ≡ item_rates xs
same_rates [] i y h r = refl
same_rates (x ∷ xs) zero y h r = ap (λ n. n + item_rates xs) (rw (h, r) refl)
same_rates (x ∷ xs) (suc i) y h r = ap (λ n. if_homed x.home x.share.rate + n) (same_rates xs i y h r)

pub left_none : (m : Machine) (st : State) → Sound m st → (i : ℕ) → i < length st.tasks → st.tick ≡ m.unit * (task st i).deadline
    → (task st i).left ≡ 0
left_none m st g i l e =
    let (h, home) = g.housed i l in
    omega (arith, left_in_time m.unit m.frames st.tick st.tasks st.levels g.levels i h home)

module _ (m : Machine) (st : State) (g : Sound m st) (i d : ℕ) (a : Announces m st i d) where
  abbrev x : Item
  x = item_at st.tasks i

  abbrev y : Item
  y = item_with_job d x

  pub announce_renewed : RenewedItems x.share.deadline st.tasks (set st.tasks i y)
  announce_renewed = renewed_set x.share.deadline st.tasks i y refl
      (inr (record { was_due = refl; was_done = left_none m st g i a.one a.due; later = omega (arith, a.later); same_rate = refl; fresh = refl }))

  announce_one : (P : Item → Type 0) → ((k : ℕ) → k < length st.tasks → P (item_at st.tasks k)) → P y → (k : ℕ)
      → k < length (announce i d st).tasks → P (item_at (announce i d st).tasks k)
  announce_one P all one k h =
      let l : k < length st.tasks = rw length-set at h in
      elim (cases_eq k i) [
        | inl e ↦ subst P (sym (ap (λ n. item_at (set st.tasks i y) n) e ∙ get_or-set_same st.tasks i y no_item a.one)) one
        | inr n ↦ subst P (sym (get_or-set_other st.tasks i k y no_item n)) (all k l)
      ]

  announce_sound : Sound m (announce i d st)
  announce_sound = record {
    levels = announced m.unit m.frames st.tick x.share.deadline a.due st.levels announce_renewed g.levels;
    housed = announce_one (λ z. (h : ℕ) × (z.home ≡ Some h)) g.housed (g.housed i a.one);
    fills = same_rates st.tasks i y refl refl ∙ g.fills;
    within = announce_one (λ z. z.share.deadline ≤ m.frames) g.within a.within;
    a_unit = g.a_unit;
  }

-- ---- a tick

fresh_between : (unit frames t : ℕ) (items : List Item) (levels : List (List Server)) → (t % unit ≡ 0 → ⊥)
    → SoundLevels unit frames t items levels → Fresh unit t levels
fresh_between unit frames t items [] n s = tt
fresh_between unit frames t items (ss ∷ above) n s = (λ j l. later j l (cases_lt t (unit * (server_at ss j).share.deadline)), fresh_between unit frames t (duals unit ss) above n s.2)
  where
    later : (j : ℕ) → j < length ss → (t < unit * (server_at ss j).share.deadline) ⊎ (unit * (server_at ss j).share.deadline ≤ t)
        → t < unit * (server_at ss j).share.deadline
    later j l (inl h) = h
    later j l (inr h) = let e : t ≡ unit * (server_at ss j).share.deadline = omega (arith, (s.1 j l).split) in absurd (n (ap (λ k. k % unit) e ∙ mul-mod_right unit _))

spent_rates : (named : ℕ → Bool) (xs : List Item) → item_rates (spend_items named xs) ≡ item_rates xs
spent_rates named [] = refl
spent_rates named (x ∷ xs) = omega (arith, one (named 0) x.share, spent_rates (λ i. named (suc i)) xs)
  where
    one : (b : Bool) (c : Share) → if_homed x.home (spend_if b c).rate ≡ if_homed x.home c.rate
    one true c = refl
    one false c = refl

module _ (m : Machine) (st : State) (g : Sound m st) (w : Goes m st) where
  pub ready_sound : SoundLevels m.unit m.frames st.tick st.tasks (ready m st) × Fresh m.unit st.tick (ready m st)
  ready_sound = go (eqb (st.tick % m.unit) 0) refl
    where
      f : ℕ
      f = st.tick / m.unit

      go : (b : Bool) → eqb (st.tick % m.unit) 0 ≡ b
          → SoundLevels m.unit m.frames st.tick st.tasks (cond b (renew_levels m.unit m.frames f st.tasks st.levels) st.levels)
          × Fresh m.unit st.tick (cond b (renew_levels m.unit m.frames f st.tasks st.levels) st.levels)
      go true e =
          let start : st.tick ≡ m.unit * f = frame_start st.tick m.unit e in
          let below : (d : ℕ) → st.tick < m.unit * d → f < d = frame_below m.unit st.tick f start in
          renewed m.unit m.frames st.tick f start st.levels (below m.frames w.lasts) (all_same f st.tasks) (λ i l. below _ (w.announced i l)) g.within g.levels
      go false e = (g.levels, fresh_between m.unit m.frames st.tick st.tasks st.levels (eqb-false _ _ e) g.levels)

  module _ (rules : Rules) (law : AllLawful rules) where
    tick_done : Ticked rules m.unit m.frames st.tick st.tasks (ready m st)
    tick_done = ticked m.unit m.frames st.tick rules law st.tasks (ready m st) ready_sound.0 ready_sound.1

    same_item : (i : ℕ) → i < length (step rules m st).tasks
        → ((item_at (step rules m st).tasks i).share.deadline ≡ (task st i).deadline) × (i < length st.tasks)
    same_item i h =
        let l : i < length st.tasks = rw length_spent at h in
        (ap (λ x. x.share.deadline) (item_spent (runs rules m st) st.tasks i l) ∙ one (runs rules m st i) (task st i), l)
      where
        one : (b : Bool) (c : Share) → (spend_if b c).deadline ≡ c.deadline
        one true c = refl
        one false c = refl

    step_sound : Sound m (step rules m st)
    step_sound = record {
      levels = tick_done.sound;
      housed = λ i l. let (h, e) = g.housed i (same_item i l).1 in (h, home_spent (runs rules m st) st.tasks i ∙ e);
      fills = spent_rates (runs rules m st) st.tasks ∙ g.fills;
      within = λ i l. omega (arith, (same_item i l).0, g.within i (same_item i l).1);
      a_unit = g.a_unit;
    }

    full_tick : (count (length st.tasks) (runs rules m st) ≡ m.cores) × ((i : ℕ) → runs rules m st i ≡ true → 1 ≤ (task st i).left)
    full_tick = (mul_cancel g.a_unit (filled m.unit m.frames st.tick rules law st.tasks (ready m st) ready_sound.0 ready_sound.1 ∙ g.fills), tick_done.left)
      where
        mul_cancel : {a b u : ℕ} → 1 ≤ u → a * u ≡ b * u → a ≡ b
        mul_cancel {a} {b} {u} h e = elim (cases_order a b) [
          | inl s ↦ s
          | inr (inl l) ↦ absurd (omega (arith, mul-le-mul_right {m = suc a} {n = b} u l))
          | inr (inr l) ↦ absurd (omega (arith, mul-le-mul_right {m = suc b} {n = a} u l))
        ]

-- ---- whole runs

opening_state_sound : (m : Machine) (st : State) → IsOpening m st → Sound m st
opening_state_sound m st o = record {
  levels = opening_sound m.unit m.frames st.tick st.tasks st.levels o.now o.planned o.unbegun_tasks o.few o.few_servers;
  housed = o.housed;
  fills = o.fills;
  within = λ i l. omega (arith, (o.unbegun_tasks i l).1);
  a_unit = o.a_unit;
}

pub every_state_is_sound : EveryStateIsSound
every_state_is_sound m st (opens o) = opening_state_sound m st o
every_state_is_sound m _ (announces {st} r i d a) = announce_sound m st (every_state_is_sound m st r) i d a
every_state_is_sound m _ (ticks {st} r w rules law) = step_sound m st (every_state_is_sound m st r) w rules law

pub every_tick_is_full : EveryTickIsFull
every_tick_is_full m st r w rules law = full_tick m st (every_state_is_sound m st r) w rules law

pub no_deadline_is_missed : NoDeadlineIsMissed
no_deadline_is_missed m st r i l e = left_none m st (every_state_is_sound m st r) i l e

pub every_level_is_full : EveryLevelIsFull
every_level_is_full m st r w rules law =
    let (s, f) = ready_sound m st (every_state_is_sound m st r) w in
    full_levels m.unit m.frames st.tick rules law st.tasks (ready m st) s f

-- After the renewal every server of every level and its clients are balanced.
in_balance : (unit frames t : ℕ) (items : List Item) (levels : List (List Server)) → SoundLevels unit frames t items levels → Fresh unit t levels
    → (k j : ℕ) → j < length (level_at levels k) → Balanced (server_at (level_at levels k) j).share (clients (packed unit items levels k) j)
in_balance unit frames t items [] s f k j l = absurd (omega arith)
in_balance unit frames t items (ss ∷ above) s f zero j l = balanced_now unit frames t (server_at ss j) (clients items j) (s.1 j l) (f.0 j l)
in_balance unit frames t items (ss ∷ above) s f (suc zero) j l = in_balance unit frames t (duals unit ss) above s.2 f.1 0 j l
in_balance unit frames t items (ss ∷ above) s f (suc (suc k)) j l = in_balance unit frames t (duals unit ss) above s.2 f.1 (suc k) j l

pub rules_are_asked_in_balance : RulesAreAskedInBalance
rules_are_asked_in_balance m st r w =
    let (s, f) = ready_sound m st (every_state_is_sound m st r) w in
    in_balance m.unit m.frames st.tick st.tasks (ready m st) s f
