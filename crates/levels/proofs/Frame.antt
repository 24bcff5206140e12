-- A frame start keeps every level sound: new jobs of items, and then the renewal of the servers that are due. Assumes nothing.
use Rattle.std.proofs.Common.{◌≡◌, ℕ, zero, suc, ◌+◌, ◌-◌, ◌*◌, ◌/◌, ◌%◌, ◌<◌, ◌≤◌, Bool, true, false, cond, eqb, ◌⊎◌, List, [], ◌∷◌, length, None, sym, refl, ap, ◌∙◌, subst, inl, inr, add-mul, mul-le-mul_left, arith}
use Rattle.std.specs.List.{AllByRecursion}
use Rattle.std.proofs.ByRecursion.{All-weaker}
use Rattle.std.proofs.lemmas.Bool.{eqb-true, eqb-false, cases_lt, cases_eq}
use Rattle.packing.specs.Packing.{at_home}
use Rattle.choosing.specs.declared.share.Share.{Share}
use Rattle.choosing.specs.Balance.{NoneBefore, SomeAt}
use Rattle.choosing.specs.Demands.{span}
use Rattle.levels.specs.declared.item.Item.{Item}
use Rattle.levels.specs.declared.server.Server.{Server}
use Rattle.levels.specs.Items.{item_at, server_at, clients, dual_of, duals, Homed}
use Rattle.levels.specs.Renewing.{least_deadline, server_with_job, renew_server, renew_servers, renew_levels}
use Rattle.levels.specs.Soundness.{Kept, SoundLevels}
use Rattle.levels.proofs.Jobs.{Renewed, RenewedAll, none, more, loosely_renewed, length_renewed_all, loosely_begun}
use Rattle.levels.proofs.Least.{least_deadline_none_before, least_deadline_from, least_deadline_within, AllBy, least_deadline_some_at}
use Rattle.levels.proofs.Clients.{dual_at, length_duals}
use Rattle.levels.proofs.Tick.{Fresh}

-- ---- frame starts

pub frame_start : (t unit : ℕ) → eqb (t % unit) 0 ≡ true → t ≡ unit * (t / unit)
frame_start t unit e = omega (arith, eqb-true _ _ e)

pub frame_below : (unit t f : ℕ) → t ≡ unit * f → (d : ℕ) → t < unit * d → f < d
frame_below unit t f start d h = elim (cases_lt f d) [ inl l ↦ l | inr l ↦ absurd (omega (arith, mul-le-mul_left unit l)) ]

-- ---- new jobs of items

-- Each item is as it was, or has its next job; all keep their homes.
pub data RenewedItems (f : ℕ) : List Item → List Item → Type 0 where
  end : RenewedItems f [] []
  next : {x y : Item} {xs ys : List Item} → y.home ≡ x.home → Renewed f x.share y.share → RenewedItems f xs ys
      → RenewedItems f (x ∷ xs) (y ∷ ys)

renewed_if : (f : ℕ) (b : Bool) {c c' : Share} {cs cs' : List Share} → Renewed f c c' → RenewedAll f cs cs'
    → RenewedAll f (cond b (c ∷ cs) cs) (cond b (c' ∷ cs') cs')
renewed_if f true r rs = more r rs
renewed_if f false r rs = rs

pub clients_renewed : (f j : ℕ) {xs ys : List Item} → RenewedItems f xs ys → RenewedAll f (clients xs j) (clients ys j)
clients_renewed f j end = none
clients_renewed f j (next {x} {y} {xs} {ys} h r rs) = rw h (renewed_if f (at_home x.home j) r (clients_renewed f j rs))

pub homed_renewed : (f n : ℕ) {xs ys : List Item} → RenewedItems f xs ys → Homed n xs → Homed n ys
homed_renewed f n end g i h e = g i h e
homed_renewed f n (next k r rs) g zero h e = g 0 h (sym k ∙ e)
homed_renewed f n (next {xs = xs} k r rs) g (suc i) h e = homed_renewed f n rs (λ i h e. g (suc i) h e) i h e

-- No item is due at frame f.
abbrev pub NoneDue : ℕ → List Item → Type 0
NoneDue f xs = (i : ℕ) → i < length xs → f < (item_at xs i).share.deadline

-- What holds of all items holds of the clients of each server.
client_if : (P : Share → Type 0) (b : Bool) (c : Share) (cs : List Share) → P c → AllByRecursion P cs → AllByRecursion P (cond b (c ∷ cs) cs)
client_if P true c cs h f = (h, f)
client_if P false c cs h f = f

pub all_clients : (P : Share → Type 0) (xs : List Item) (j : ℕ) → ((i : ℕ) → i < length xs → P (item_at xs i).share) → AllByRecursion P (clients xs j)
all_clients P [] j g = tt
all_clients P (x ∷ xs) j g = client_if P (at_home x.home j) x.share (clients xs j) (g 0 (omega arith)) (all_clients P xs j (λ i h. g (suc i) (omega arith)))

pub due_clients : (f j : ℕ) (xs : List Item) → NoneDue f xs → NoneBefore (suc f) (clients xs j)
due_clients f j xs g = all_clients (λ c. f < c.deadline) xs j g

-- Every deadline of an item is within the run.
abbrev pub AllWithin : ℕ → List Item → Type 0
AllWithin h xs = (i : ℕ) → i < length xs → (item_at xs i).share.deadline ≤ h

pub by_clients : (h j : ℕ) (xs : List Item) → AllWithin h xs → AllBy h (clients xs j)
by_clients h j xs g = all_clients (λ c. c.deadline ≤ h) xs j g

-- Clients that are all due later have no new job.
unchanged : (f : ℕ) {cs cs' : List Share} → RenewedAll f cs cs' → NoneBefore (suc f) cs → cs' ≡ cs
unchanged f none d = refl
unchanged f (more {cs = cs} {cs' = cs'} (inl e) rs) d = λ i. e i ∷ unchanged f rs d.1 i
unchanged f (more (inr n) rs) d = absurd (omega (arith, n.was_due, d.0))

module _ (unit frames t f : ℕ) (start : t ≡ unit * f) where
  -- A server that is not due at f is due later.
  due_later : (s : Server) (cs : List Share) → Kept unit frames t s cs → (s.share.deadline ≡ f → ⊥) → f < s.share.deadline
  due_later s cs k n = elim (cases_lt f s.share.deadline) [
    | inl h ↦ h
    | inr h ↦ absurd (omega (arith, k.split, k.well_rated.within.0, k.well_rated.within.1, mul-le-mul_left {m = suc s.share.deadline} {n = f} unit (omega arith)))
  ]

  -- New jobs of its clients.
  pub kept_renewed : (s : Server) {cs cs' : List Share} → RenewedAll f cs cs' → Kept unit frames t s cs → Kept unit frames t s cs'
  kept_renewed s {cs} {cs'} rs k = record {
    loosely = loosely_renewed f rs k.loosely;
    well_rated = k.well_rated;
    split = k.split;
    root_dual = k.root_dual;
    least = still (cases_eq s.share.deadline f);
    within = k.within;
    few = omega (arith, k.few, length_renewed_all f rs);
  }
    where
      still : (s.share.deadline ≡ f) ⊎ (s.share.deadline ≡ f → ⊥) → SomeAt s.share.deadline cs' ⊎ (t ≡ unit * s.share.deadline)
      still (inl e) = inr (start ∙ ap (λ d. unit * d) (sym e))
      still (inr n) = let later : f < s.share.deadline = due_later s cs k n in
          elim k.least [
            | inl e ↦ inl (subst (SomeAt s.share.deadline) (sym (unchanged f rs (All-weaker (λ c. s.share.deadline ≤ c.deadline) (λ c. f < c.deadline) (λ c h. omega arith) cs k.loosely.none_before))) e)
            | inr e ↦ inr e
          ]

  -- The renewal of one server, with its clients' new jobs.
  record RenewedServer (cs : List Share) (s s' : Server) : Type 0 where
    kept : Kept unit frames t s' cs
    later : f < s'.share.deadline
    dual : Renewed f (dual_of unit s).share (dual_of unit s').share
    home_is : s'.home ≡ s.home

  begins : (s : Server) (cs : List Share) → Kept unit frames t s cs → s.share.deadline ≡ f → AllBy frames cs → (d : ℕ)
      → d ≡ least_deadline frames cs → f < d → RenewedServer cs s (server_with_job unit f d s)
  begins s cs k e by d m l = record {
    kept = record {
      loosely = loosely_begun f d s.share cs e (omega (arith, empty)) (omega arith) (least_deadline_none_before frames cs d (omega arith)) k.loosely;
      well_rated = k.well_rated;
      split = omega (arith, k.well_rated.within.1, add-mul s.share.rate (unit - s.share.rate) (d - f), ap (λ u. u * (d - f)) whole, span unit f d (omega arith));
      root_dual = λ h. ap (λ u. u * (d - f)) (none_left h) ∙ omega arith;
      least = inl (subst (λ n. SomeAt n cs) (sym m) (least_deadline_some_at frames cs (omega (arith, k.well_rated.within.0, k.loosely.rated)) by));
      within = omega (arith, least_deadline_within frames cs);
      few = k.few;
    };
    later = l;
    dual = inr (record { was_due = e; was_done = omega (arith, empty); later = omega arith; same_rate = refl; fresh = refl });
    home_is = refl;
  }
    where
      empty : s.share.left + s.dual ≡ 0
      empty = omega (arith, k.split, ap (λ x. unit * x) e)

      whole : s.share.rate + (unit - s.share.rate) ≡ unit
      whole = omega (arith, k.well_rated.within.1)

      none_left : s.home ≡ None → unit - s.share.rate ≡ 0
      none_left h = omega (arith, k.well_rated.root h)

  renews : (s : Server) (cs : List Share) → f < frames → NoneBefore (suc f) cs → AllBy frames cs → Kept unit frames t s cs
      → RenewedServer cs s (renew_server unit frames f cs s)
  renews s cs h d by k = go _ (eqb-true _ _) (eqb-false _ _)
    where
      go : (b : Bool) → (b ≡ true → s.share.deadline ≡ f) → (b ≡ false → s.share.deadline ≡ f → ⊥)
          → RenewedServer cs s (cond b (server_with_job unit f (least_deadline frames cs) s) s)
      go true due later = begins s cs k (due refl) by (least_deadline frames cs) refl (least_deadline_from frames cs (suc f) h d)
      go false due later = record { kept = k; later = due_later s cs k (later refl); dual = inl refl; home_is = refl }

  pub length_renewed : (items : List Item) (j : ℕ) (ss : List Server) → length (renew_servers unit frames f items j ss) ≡ length ss
  length_renewed items j [] = refl
  length_renewed items j (s ∷ ss) = ap suc (length_renewed items (suc j) ss)

  pub server_renewed : (items : List Item) (j : ℕ) (ss : List Server) (k n : ℕ) → n ≡ j + k → k < length ss
      → server_at (renew_servers unit frames f items j ss) k ≡ renew_server unit frames f (clients items n) (server_at ss k)
  server_renewed items j [] k n e h = absurd (omega arith)
  server_renewed items j (s ∷ ss) zero n e h = ap (λ m. renew_server unit frames f (clients items m) s) (omega arith)
  server_renewed items j (s ∷ ss) (suc k) n e h = server_renewed items (suc j) ss k n (omega arith) (omega arith)

  duals_renewed : (items : List Item) (j : ℕ) (ss : List Server)
      → ((k n : ℕ) → n ≡ j + k → k < length ss → RenewedServer (clients items n) (server_at ss k) (renew_server unit frames f (clients items n) (server_at ss k)))
      → RenewedItems f (duals unit ss) (duals unit (renew_servers unit frames f items j ss))
  duals_renewed items j [] g = end
  duals_renewed items j (s ∷ ss) g =
      let r : RenewedServer (clients items j) s (renew_server unit frames f (clients items j) s) = g 0 j (omega arith) (omega arith) in
      next r.home_is r.dual (duals_renewed items (suc j) ss (λ k n e h. g (suc k) n (omega arith) (omega arith)))

  -- New jobs of the items alone, before any server is renewed.
  pub announced : (levels : List (List Server)) {items items' : List Item} → RenewedItems f items items' → SoundLevels unit frames t items levels
      → SoundLevels unit frames t items' levels
  announced [] rs s = homed_renewed f 0 rs s
  announced (ss ∷ above) rs s = (homed_renewed f (length ss) rs s.0, λ j h. kept_renewed (server_at ss j) (clients_renewed f j rs) (s.1 j h), s.2)

  -- One level, whose items have had their new jobs.
  module _ (items items' : List Item) (ss : List Server) (h : f < frames) (rs : RenewedItems f items items') (d : NoneDue f items')
      (by : AllWithin frames items')
      (kept : (j : ℕ) → j < length ss → Kept unit frames t (server_at ss j) (clients items j)) where
    abbrev pub new_servers : List Server
    new_servers = renew_servers unit frames f items' 0 ss

    one_renewed : (k : ℕ) → k < length ss
        → RenewedServer (clients items' k) (server_at ss k) (renew_server unit frames f (clients items' k) (server_at ss k))
    one_renewed k l = renews (server_at ss k) (clients items' k) h (due_clients f k items' d) (by_clients frames k items' by) (kept_renewed (server_at ss k) (clients_renewed f k rs) (kept k l))

    new_at : (k : ℕ) → k < length ss → RenewedServer (clients items' k) (server_at ss k) (server_at new_servers k)
    new_at k l = rw (server_renewed items' 0 ss k k (omega arith) l) (one_renewed k l)

    pub new_duals : RenewedItems f (duals unit ss) (duals unit new_servers)
    new_duals = duals_renewed items' 0 ss λ k n e l.
        let P : ℕ → Type 0 = λ m. RenewedServer (clients items' m) (server_at ss k) (renew_server unit frames f (clients items' m) (server_at ss k)) in
        let same : k ≡ n = omega arith in
        subst P same (one_renewed k l)

    new_later : (k : ℕ) → k < length ss → t < unit * (server_at new_servers k).share.deadline
    new_later k l =
        let r : RenewedServer (clients items' k) (server_at ss k) (server_at new_servers k) = new_at k l in
        omega (arith, r.kept.well_rated.within.0, r.kept.well_rated.within.1, mul-le-mul_left {m = suc f} {n = (server_at new_servers k).share.deadline} unit r.later)

    pub none_due : NoneDue f (duals unit new_servers)
    none_due k l =
        let m : k < length new_servers = rw length_duals at l in
        rw (dual_at unit new_servers k m) (new_at k (rw length_renewed at m)).later

    pub all_within : AllWithin frames (duals unit new_servers)
    all_within k l =
        let m : k < length new_servers = rw length_duals at l in
        rw (dual_at unit new_servers k m) (new_at k (rw length_renewed at m)).kept.within

  pub renewed : (levels : List (List Server)) {items items' : List Item} → f < frames → RenewedItems f items items' → NoneDue f items'
      → AllWithin frames items' → SoundLevels unit frames t items levels
      → SoundLevels unit frames t items' (renew_levels unit frames f items' levels) × Fresh unit t (renew_levels unit frames f items' levels)
  renewed [] h rs d by s = (homed_renewed f 0 rs s, tt)
  renewed (ss ∷ above) {items} {items'} h rs d by s =
      let up : SoundLevels unit frames t (duals unit (new_servers items items' ss h rs d by s.1)) (renew_levels unit frames f (duals unit (new_servers items items' ss h rs d by s.1)) above)
      × Fresh unit t (renew_levels unit frames f (duals unit (new_servers items items' ss h rs d by s.1)) above) =
      renewed above h (new_duals items items' ss h rs d by s.1) (none_due items items' ss h rs d by s.1) (all_within items items' ss h rs d by s.1) s.2 in (
        (
          rw length_renewed (homed_renewed f (length ss) rs s.0),
          λ k l. (new_at items items' ss h rs d by s.1 k (rw length_renewed at l)).kept,
          up.0,
        ),
        (
          λ k l. new_later items items' ss h rs d by s.1 k (rw length_renewed at l),
          up.1,
        ),
      )
