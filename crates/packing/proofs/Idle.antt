-- The idle tasks fill the cores, and are no more than the cores. Assumes nothing.
use Rattle.std.proofs.Common.{◌≡◌, ℕ, zero, suc, ◌*◌, ◌/◌, ◌%◌, ◌<◌, ◌≤◌, eqb, List, [], ◌∷◌, length, get_or, replicate, sum, sym, ap, ◌∙◌, subst, inl, inr, ⊎_elim, mul-le-mul_right, suc-mul, zero-mul, arith}
use Rattle.std.specs.List.{AllByRecursion}
use Rattle.std.proofs.ByRecursion.{All-append, All-from_get_or}
use Rattle.std.proofs.lemmas.List.{length-append, length-replicate}
use Rattle.std.proofs.lemmas.List.Sums.{sum_by-cons, sum_by-append}
use Rattle.std.proofs.lemmas.Bool.{cases_eq, cases_lt, cond-true, cond-false, eq-eqb, ne_eqb}
use Rattle.packing.specs.declared.refusal.Refusal.TheVariants.{BadCores, BadUnit, BadTaskCount, BadRate, Overload}
use Rattle.packing.specs.Packing.{Within}
use Rattle.packing.specs.Plan.{spare, unless_zero, idle, all_tasks, FullCores}
use Rattle.packing.specs.Refusals.{Allowed}
use Rattle.packing.specs.Steps.{Limits}

-- ---- a load that is allowed is within the limits

not_less : (m n : ℕ) → (m < n → ⊥) → n ≤ m
not_less m n never = ⊎_elim (λ less. absurd (never less)) (λ le. le) (cases_lt m n)

stable : (unit rate : ℕ) → ((Within unit rate → ⊥) → ⊥) → Within unit rate
stable unit rate never =
    (not_less rate 1 (λ less. never (λ w. omega (arith, w.0))), not_less unit rate (λ less. never (λ w. omega (arith, w.1))))

pub limits : (cores unit : ℕ) (sheet : List ℕ) → Allowed cores unit sheet → Limits cores unit sheet
limits cores unit sheet allowed = record {
  a_core = not_less cores 1 (λ h. allowed BadCores (inl h));
  few_cores = not_less 16 cores (λ h. allowed BadCores (inr h));
  a_unit = not_less unit 1 (λ h. allowed BadUnit (inl h));
  small_unit = not_less 1000 unit (λ h. allowed BadUnit (inr h));
  few_tasks = not_less 64 (length sheet) (λ h. allowed BadTaskCount (inr h));
  within = All-from_get_or (Within unit) sheet 0 (λ i h. stable unit (get_or sheet i 0) (λ out. allowed (BadRate i) (h, out)));
  fits = not_less (cores * unit) (sum sheet) (λ h. allowed Overload h);
}

-- ---- idle tasks of these parts

pub unless_none : (rate : ℕ) → rate ≡ 0 → unless_zero rate ≡ []
unless_none rate none = cond-true (eqb rate 0) [] (rate ∷ []) (eq-eqb rate 0 none)

pub unless_some : (rate : ℕ) → (rate ≡ 0 → ⊥) → unless_zero rate ≡ rate ∷ []
unless_some rate some = cond-false (eqb rate 0) [] (rate ∷ []) (ne_eqb rate 0 some)

sum_unless : (rate : ℕ) → sum (unless_zero rate) ≡ rate
sum_unless rate = ⊎_elim
    (λ none. ap sum (unless_none rate none) ∙ sym none)
    (λ some. ap sum (unless_some rate some) ∙ sum_by-cons (λ y. y) rate [] ∙ omega arith)
    (cases_eq rate 0)

all_unless : (unit rate : ℕ) → rate ≤ unit → AllByRecursion (Within unit) (unless_zero rate)
all_unless unit rate fits = ⊎_elim
    (λ none. subst (AllByRecursion (Within unit)) (sym (unless_none rate none)) tt)
    (λ some. subst (AllByRecursion (Within unit)) (sym (unless_some rate some)) ((omega arith, fits), tt))
    (cases_eq rate 0)

sum_replicate : (n rate : ℕ) → sum (replicate n rate) ≡ n * rate
sum_replicate zero rate = omega (arith, zero-mul rate)
sum_replicate (suc n) rate = omega (arith, sum_by-cons (λ y. y) rate (replicate n rate), sum_replicate n rate, suc-mul n rate)

all_replicate : (P : ℕ → Type 0) (n x : ℕ) → P x → AllByRecursion P (replicate n x)
all_replicate P zero x h = tt
all_replicate P (suc n) x h = (h, all_replicate P n x h)

module _ (unit parts : ℕ) (a_unit : 1 ≤ unit) where
  sum_idle : sum (idle unit parts) ≡ parts
  sum_idle =
      sum_by-append (λ y. y) (replicate (parts / unit) unit) (unless_zero (parts % unit))
      ∙ omega (arith, sum_replicate (parts / unit) unit, sum_unless (parts % unit))

  all_idle : AllByRecursion (Within unit) (idle unit parts)
  all_idle =
      All-append (Within unit) (replicate (parts / unit) unit) (unless_zero (parts % unit))
      (all_replicate (Within unit) (parts / unit) unit (a_unit, omega arith))
      (all_unless unit (parts % unit) (omega arith))

  -- no more whole ones than cores, and fewer where there is a rest
  pub few_whole : (cores : ℕ) → parts ≤ cores * unit → parts / unit ≤ cores
  few_whole cores fits = ⊎_elim
      (λ above. absurd (omega (arith, mul-le-mul_right unit above, suc-mul cores unit)))
      (λ le. le)
      (cases_lt cores (parts / unit))

  pub fewer_whole : (cores : ℕ) → parts ≤ cores * unit → (parts % unit ≡ 0 → ⊥) → parts / unit < cores
  fewer_whole cores fits some = ⊎_elim (λ less. less) (λ all. absurd (omega (arith, mul-le-mul_right unit all))) (cases_lt (parts / unit) cores)

  few_idle : (cores : ℕ) → parts ≤ cores * unit → length (idle unit parts) ≤ cores
  few_idle cores fits =
      let count = length-append (replicate (parts / unit) unit) (unless_zero (parts % unit)) in
      let whole = length-replicate (parts / unit) unit in
      ⊎_elim
      (λ none. omega (arith, count, whole, ap length (unless_none (parts % unit) none), few_whole cores fits))
      (λ some. omega (arith, count, whole, ap length (unless_some (parts % unit) some), fewer_whole cores fits some))
      (cases_eq (parts % unit) 0)

-- ---- all tasks

module _ (cores unit : ℕ) (sheet : List ℕ) (load : Limits cores unit sheet) where
  pub full_tasks : FullCores unit cores (all_tasks cores unit sheet)
  full_tasks = record {
    a_unit = load.a_unit;
    a_core = load.a_core;
    few_cores = load.few_cores;
    within = All-append (Within unit) sheet (idle unit (spare cores unit sheet)) load.within (all_idle unit (spare cores unit sheet) load.a_unit);
    full = sum_by-append (λ y. y) sheet (idle unit (spare cores unit sheet)) ∙ omega (arith, sum_idle unit (spare cores unit sheet) load.a_unit, load.fits);
  }

  pub few_tasks : length (all_tasks cores unit sheet) ≤ 80
  few_tasks =
      omega (
        arith,
        length-append sheet (idle unit (spare cores unit sheet)),
        few_idle unit (spare cores unit sheet) load.a_unit cores (omega arith),
        load.few_tasks,
        load.few_cores,
      )
