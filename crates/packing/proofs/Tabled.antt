-- Tables are read back as what they were made of. Assumes nothing.
use Rattle.std.proofs.Common.{◌≡◌, ℕ, List, [], ◌∷◌, map, length, take, replicate, None, Option, sym, refl, ap, ◌∙◌, subst}
use Rattle.std.proofs.lemmas.List.{length-map}
use Rattle.packing.specs.declared.plan.Plan.{Plan}
use Rattle.packing.specs.Fitting.{Rule}
use Rattle.packing.specs.Packing.{Packing}
use Rattle.packing.specs.Plan.{IsPlan}
use Rattle.packing.specs.Steps.{Built}
use Rattle.packing.specs.Tables.{over, blank_level, level_table, plan_table, packing_in, levels_in}
use Rattle.packing.proofs.Over.{take_over}

abbrev pub from_parts : List (Option ℕ) → List ℕ → Packing
from_parts homes rates = record { homes = homes; rates = rates }

pub packing_back : (p : Packing) → packing_in (level_table p) ≡ p
packing_back p =
    ap (λ hs. from_parts hs (take (length p.rates) (over p.rates (replicate 31 0)))) (take_over p.homes (replicate 80 None))
    ∙ ap (from_parts p.homes) (take_over p.rates (replicate 31 0))

levels_back : (levels : List Packing) → map packing_in (map level_table levels) ≡ levels
levels_back [] = refl
levels_back (l ∷ above) = let here = packing_back l in let rest = levels_back above in cc

plan_back : (unit : ℕ) (tasks : List ℕ) (levels : List Packing) → levels_in (plan_table unit tasks levels) ≡ levels
plan_back unit tasks levels =
    let count : length levels ≡ length (map level_table levels) = sym (length-map levels level_table) in
    ap (λ n. map packing_in (take n (over (map level_table levels) (replicate 5 blank_level)))) count
    ∙ ap (map packing_in) (take_over (map level_table levels) (replicate 5 blank_level))
    ∙ levels_back levels

-- the tables of a plan
pub built : (rule : Rule) (unit : ℕ) (tasks : List ℕ) (levels : List Packing) (new : Plan) → IsPlan rule unit tasks levels → new ≡ plan_table unit tasks levels
    → Built rule unit tasks new
built rule unit tasks levels new is_plan tables =
    let same : levels_in new ≡ levels = ap levels_in tables ∙ plan_back unit tasks levels in
    record {
      is_plan = subst (IsPlan rule unit tasks) (sym same) is_plan;
      tables = tables ∙ ap (plan_table unit tasks) (sym same);
    }
