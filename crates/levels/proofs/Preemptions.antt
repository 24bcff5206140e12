-- Over a whole run the preemptions are paid for by the jobs. Assumes nothing.
use Rattle.std.proofs.Common.{◌≡◌, ℕ, zero, suc, ◌+◌, ◌-◌, ◌*◌, ◌/◌, ◌%◌, ◌<◌, ◌≤◌, Bool, true, false, cond, not, ◌&&◌, eqb, ltb, List, [], ◌∷◌, length, set, Some, None, Option, sym, refl, ap, ◌∙◌, mul-le-mul_right, add-mul, mul-le-mul_left, mul-add, arith}
use Rattle.std.specs.List.{AllByRecursion}
use Rattle.std.proofs.lemmas.List.{get_or-set_other}
use Rattle.choosing.specs.declared.share.Share.{Share}
use Rattle.choosing.specs.Balance.{rates}
use Rattle.choosing.specs.Choosing.{Rule, Lawful, GoesOn}
use Rattle.levels.specs.declared.item.Item.{Item}
use Rattle.levels.specs.declared.server.Server.{Server}
use Rattle.levels.specs.Sums.{bit, count}
use Rattle.levels.specs.Items.{no_item, item_at, clients, duals, if_homed}
use Rattle.levels.specs.Ticking.{Rules, always, next_level, spend_levels}
use Rattle.levels.specs.Renewing.{least_deadline, renew_servers, renew_levels}
use Rattle.levels.specs.Running.{Machine, State, item_with_job, announce, ready, runs, step}
use Rattle.levels.specs.Opening.{PlannedLevels}
use Rattle.levels.specs.Reaching.{Announces, Goes, Reached}
use Rattle.levels.specs.Soundness.{SoundLevels, Sound}
use Rattle.levels.specs.Counting.{unfinished, Counted, opens, announces, ticks}
use Rattle.levels.specs.Theorems.{PreemptionsAreFew}
use Rattle.levels.proofs.Never.{never_true}
use Rattle.levels.proofs.Frame.{frame_start, frame_below, all_clients}
use Rattle.levels.proofs.States.{Unbegun, UnbegunItems, unbegun_duals, all_same, announce_renewed, ready_sound, every_state_is_sound}
use Rattle.levels.proofs.Tallies.{many, if_homed_most, many_count, tally_none}
use Rattle.levels.proofs.Marks.{Marked, waits, potential, new_jobs, all_go_on, new_jobs_most, marked_after, preempted_paid}
use Rattle.levels.proofs.Charges.{Flagged, level_renewed, renew_flags, marked_renewed}
use Rattle.levels.specs.Reaching

abbrev bound : List (List Server) → ℕ
bound levels = 2 * (length levels - 1) + 1

-- What is carried along a run.
record Carried (rule : Rule) (m : Machine) (st : State) (before : ℕ → Bool) (jobs preemptions : ℕ) : Type 0 where
  going : ℕ → ℕ → Bool
  new : ℕ → ℕ → Bool
  is_before : going 0 ≡ before
  quiet : (k i : ℕ) → new (suc k) i ≡ false
  marked : Marked rule m.unit m.frames st.tasks st.levels going new
  paid : preemptions + potential m.unit st.levels going + bound st.levels * many st.tasks (new 0) ≤ bound st.levels * jobs

many_false : (xs : List Item) → many xs (λ i. false) ≡ 0
many_false [] = refl
many_false (x ∷ xs) = omega (arith, if_homed_most x.home 0, many_false xs)

-- ---- the opening

unbegun_least : (h : ℕ) (cs : List Share) → AllByRecursion Unbegun cs → 1 ≤ rates cs → least_deadline h cs ≡ 0
unbegun_least h [] r l = absurd (omega arith)
unbegun_least h (c ∷ cs) r l = omega (arith, r.0.1)

unbegun_waits : (xs : List Item) → UnbegunItems xs → waits xs (λ i. false) ≡ 0
unbegun_waits [] r = refl
unbegun_waits (x ∷ xs) r = omega (arith, go x.home x.share.left (r 0 (omega arith)).0, unbegun_waits xs (λ i l. r (suc i) (omega arith)))
  where
    go : (o : Option ℕ) (n : ℕ) → n ≡ 0 → if_homed o (bit (ltb 0 n && true)) ≡ 0
    go None n e = refl
    go (Some h) n e = ap (λ k. bit (ltb 0 k && true)) e

opening_marked : (rule : Rule) (unit frames : ℕ) (items : List Item) (levels : List (List Server)) → PlannedLevels unit items levels
    → UnbegunItems items
    → Marked rule unit frames items levels (λ k i. false) (λ k i. false) × (potential unit levels (λ k i. false) ≡ 0)
opening_marked rule unit frames items [] p r = (tt, refl)
opening_marked rule unit frames items (ss ∷ above) p r =
    let rest : UnbegunItems (duals unit ss) = unbegun_duals unit ss (λ j l. ((p.1 j l).unspent.2, (p.1 j l).unspent.1)) in
    let (marks, no_wait) = opening_marked rule unit frames (duals unit ss) above p.2 rest in (
      (
        record {
          alone = λ q. omega (arith, tally_none items q (λ i. false) (λ i e. refl));
          apart = λ i q g e. refl;
          again = λ i q g e z. never_true g;
          due = λ q l z. (p.1 q l).unspent.1 ∙ sym (unbegun_least frames (clients items q) (all_clients Unbegun items q r) (omega (arith, (p.1 q l).rated, (p.1 q l).well_rated.within.0)));
          charged = λ q l. omega arith;
        },
        marks,
      ),
      omega (arith, no_wait, unbegun_waits (duals unit ss) rest),
    )

-- ---- an announcement

-- The flags, with i flagged too.
flag : ℕ → (ℕ → Bool) → ℕ → Bool
flag zero new zero = true
flag zero new (suc k) = new (suc k)
flag (suc i) new zero = new zero
flag (suc i) new (suc k) = flag i (λ n. new (suc n)) k

flag_other : (i k : ℕ) (new : ℕ → Bool) → flag i new k ≡ false → (k ≡ i → ⊥) × (new k ≡ false)
unfolding flag
flag_other zero zero new e = never_true (sym e)
flag_other zero (suc k) new e = (λ z. omega arith, e)
flag_other (suc i) zero new e = (λ z. omega arith, e)
flag_other (suc i) (suc k) new e = let (n, o) = flag_other i k (λ n. new (suc n)) e in (λ z. n (omega arith), o)

many_flag : (xs : List Item) (i : ℕ) (y : Item) (new : ℕ → Bool) → y.home ≡ (item_at xs i).home → many (set xs i y) (flag i new) ≤ many xs new + 1
unfolding flag
many_flag [] i y new h = omega arith
many_flag (x ∷ xs) zero y new h = omega (arith, if_homed_most y.home 1)
many_flag (x ∷ xs) (suc i) y new h = omega (arith, many_flag xs i y (λ n. new (suc n)) h)

with_flag : ℕ → (ℕ → ℕ → Bool) → ℕ → ℕ → Bool
with_flag i new zero = flag i (new 0)
with_flag i new (suc k) = new (suc k)

module _ (rule : Rule) (m : Machine) (st : State) (g : Sound m st) (i d : ℕ) (a : Announces m st i d) where
  abbrev x : Item
  x = item_at st.tasks i

  abbrev y : Item
  y = item_with_job d x

  flagged : (new : ℕ → Bool) → Flagged st.tasks (set st.tasks i y) new (flag i new)
  flagged new k e = let (n, o) = flag_other i k new e in (get_or-set_other st.tasks i k y no_item n, o)

  announce_marked : (levels : List (List Server)) (going new : ℕ → ℕ → Bool) → ((k i : ℕ) → new (suc k) i ≡ false)
      → SoundLevels m.unit m.frames st.tick st.tasks levels
      → Marked rule m.unit m.frames st.tasks levels going new → Marked rule m.unit m.frames (set st.tasks i y) levels going (with_flag i new)
  unfolding with_flag
  announce_marked [] going new quiet s k = tt
  announce_marked (ss ∷ above) going new quiet s k = (
    level_renewed rule m.frames x.share.deadline st.tasks (set st.tasks i y) ss ss (going 0) (new 0) (flag i (new 0)) (going 1) (new 1) (new 1) k.0
        (announce_renewed m st g i d a) (flagged (new 0)) s.0 refl (λ q l e. refl) (λ q l. omega (arith, ap bit (quiet 0 q))),
    k.1,
  )

  carried_announce : (before : ℕ → Bool) (jobs preemptions : ℕ) → Carried rule m st before jobs preemptions
      → Carried rule m (announce i d st) before (suc jobs) preemptions
  unfolding with_flag
  carried_announce before jobs preemptions c = record {
    going = c.going;
    new = with_flag i c.new;
    is_before = c.is_before;
    quiet = c.quiet;
    marked = announce_marked st.levels c.going c.new c.quiet g.levels c.marked;
    paid = omega (arith, c.paid, mul-le-mul_left (bound st.levels) (many_flag st.tasks i y (c.new 0) refl), mul-add (bound st.levels) (many st.tasks (c.new 0)) 1);
  }

-- ---- a tick

pub length_spend : (rules : Rules) (unit : ℕ) (levels : List (List Server)) → length (spend_levels rules unit levels) ≡ length levels
length_spend rules unit [] = refl
length_spend rules unit (ss ∷ above) = ap suc (length_spend (next_level rules) unit above)

pub length_renew : (unit frames f : ℕ) (items : List Item) (levels : List (List Server))
    → length (renew_levels unit frames f items levels) ≡ length levels
length_renew unit frames f items [] = refl
length_renew unit frames f items (ss ∷ above) = ap suc (length_renew unit frames f (duals unit (renew_servers unit frames f items 0 ss)) above)

twice : (l j : ℕ) → 2 * (l * j) ≤ (2 * (l - 1) + 1) * j + j
twice l j = omega (arith, add-mul (2 * (l - 1) + 1) 1 j, mul-le-mul_right {m = 2 * l} {n = 2 * (l - 1) + 1 + 1} j (omega arith))

once : (l j : ℕ) → l * j ≤ (2 * (l - 1) + 1) * j
once l j = mul-le-mul_right {m = l} {n = 2 * (l - 1) + 1} j (omega arith)

module _ (rule : Rule) (law : Lawful rule) (goes_on_law : GoesOn rule) (m : Machine) (st : State) (g : Sound m st) (w : Goes m st) where
  abbrev unit : ℕ
  unit = m.unit

  abbrev frames : ℕ
  frames = m.frames

  -- The levels as they run.
  record Readied (levels : List (List Server)) (going new : ℕ → ℕ → Bool) : Type 0 where
    flags : ℕ → ℕ → Bool
    marked : Marked rule unit frames st.tasks levels going flags
    pays : potential unit levels going + new_jobs unit st.tasks levels flags ≤ potential unit st.levels going + bound st.levels * many st.tasks (new 0)
    long : length levels ≡ length st.levels

  readied : (going new : ℕ → ℕ → Bool) → ((k i : ℕ) → new (suc k) i ≡ false) → Marked rule unit frames st.tasks st.levels going new
      → Readied (ready m st) going new
  readied going new quiet k = go (eqb (st.tick % unit) 0) refl (ready_sound m st g w).0
    where
      f : ℕ
      f = st.tick / unit

      go : (b : Bool) → eqb (st.tick % unit) 0 ≡ b
          → SoundLevels unit frames st.tick st.tasks (cond b (renew_levels unit frames f st.tasks st.levels) st.levels)
          → Readied (cond b (renew_levels unit frames f st.tasks st.levels) st.levels) going new
      go true e s =
          let start : st.tick ≡ unit * f = frame_start st.tick unit e in
          let below : (d : ℕ) → st.tick < unit * d → f < d = frame_below unit st.tick f start in
          let (marks, pays) = marked_renewed rule unit frames st.tick f start (below frames w.lasts) st.levels st.tasks st.tasks going new (new 0) quiet
          (all_same f st.tasks) (λ i l. below _ (w.announced i l)) g.within (λ i e. (refl, e)) g.levels k in
          let long : length (renew_levels unit frames f st.tasks st.levels) ≡ length st.levels = length_renew unit frames f st.tasks st.levels in
          record {
            flags = renew_flags f st.levels (new 0);
            marked = marks;
            pays = omega (
              arith,
              pays,
              new_jobs_most rule unit frames st.tick st.tasks (renew_levels unit frames f st.tasks st.levels) going (renew_flags f st.levels (new 0)) s marks,
              ap (λ n. n * many st.tasks (new 0)) long,
              twice (length st.levels) (many st.tasks (new 0)),
            );
            long = long;
          }
      go false e s = record {
        flags = new;
        marked = k;
        pays = omega (arith, new_jobs_most rule unit frames st.tick st.tasks st.levels going new s k, once (length st.levels) (many st.tasks (new 0)));
        long = refl;
      }

  carried_tick : (before : ℕ → Bool) (jobs preemptions : ℕ) → Carried rule m st before jobs preemptions
      → Carried rule m (step (always rule) m st) (unfinished rule m st) jobs (preemptions + count (length st.tasks) (λ i. before i && not (runs (always rule) m st i)))
  carried_tick before jobs preemptions c =
      let r : Readied (ready m st) c.going c.new = readied c.going c.new c.quiet c.marked in
      let counted : many st.tasks (λ i. c.going 0 i && not (runs (always rule) m st i)) ≡ count (length st.tasks) (λ i. before i && not (runs (always rule) m st i)) =
      many_count st.tasks (λ i. c.going 0 i && not (runs (always rule) m st i)) (λ i l e. g.housed i l)
      ∙ ap (λ b. count (length st.tasks) (λ i. b i && not (runs (always rule) m st i))) c.is_before in
      let same : length (spend_levels (always rule) unit (ready m st)) ≡ length st.levels = length_spend (always rule) unit (ready m st) ∙ r.long in
      record {
        going = all_go_on rule unit st.tasks (ready m st);
        new = λ k i. false;
        is_before = refl;
        quiet = λ k i. refl;
        marked = marked_after rule law goes_on_law unit frames st.tick st.tasks (ready m st) (ready_sound m st g w).0 (ready_sound m st g w).1;
        paid = omega (
          arith,
          c.paid,
          r.pays,
          counted,
          same,
          preempted_paid rule law goes_on_law unit frames st.tick st.tasks (ready m st) c.going r.flags (ready_sound m st g w).0 (ready_sound m st g w).1 r.marked,
          ap (λ n. bound st.levels * n) (many_false (step (always rule) m st).tasks),
          ap (λ n. (2 * (n - 1) + 1) * many (step (always rule) m st).tasks (λ i. false)) same,
          ap (λ n. (2 * (n - 1) + 1) * jobs) same,
        );
      }

-- ---- whole runs

pub forget : {rule : Rule} {m : Machine} {st : State} {before : ℕ → Bool} {jobs preemptions : ℕ} → Lawful rule
    → Counted rule m st before jobs preemptions → Reached m st
forget law (opens o) = Reaching.opens o
forget law (announces c i d a) = Reaching.announces (forget law c) i d a
forget {rule} law (ticks c w) = Reaching.ticks (forget law c) w (always rule) (λ k j. law)

carried : (rule : Rule) → Lawful rule → GoesOn rule → (m : Machine) {st : State} {before : ℕ → Bool} {jobs preemptions : ℕ}
    → Counted rule m st before jobs preemptions → Carried rule m st before jobs preemptions
carried rule law goes_on_law m (opens {st} o) =
    let (marks, no_wait) = opening_marked rule m.unit m.frames st.tasks st.levels o.planned o.unbegun_tasks in
    record { going = λ k i. false; new = λ k i. false; is_before = refl; quiet = λ k i. refl; marked = marks; paid = omega (arith, no_wait, ap (λ n. bound st.levels * n) (many_false st.tasks)) }
carried rule law goes_on_law m (announces {st} {before} {jobs} {preemptions} c i d a) =
    carried_announce rule m st (every_state_is_sound m st (forget law c)) i d a before jobs preemptions (carried rule law goes_on_law m c)
carried rule law goes_on_law m (ticks {st} {before} {jobs} {preemptions} c w) =
    carried_tick rule law goes_on_law m st (every_state_is_sound m st (forget law c)) w before jobs preemptions (carried rule law goes_on_law m c)

pub preemptions_are_few : PreemptionsAreFew
preemptions_are_few rule law goes_on_law m st before jobs preemptions c = omega (arith, (carried rule law goes_on_law m c).paid)
