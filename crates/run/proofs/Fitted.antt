-- The plan that is made of an allowed load fits the tables of a run. Assumes nothing.
use Rattle.std.proofs.Common.{◌≡◌, ℕ, ◌-◌, ◌≤◌, List, length, get_or, drop, replicate, ap, ◌∙◌, inl, inr, arith}
use lib.Seq.{drop-append_seam}
use Rattle.std.specs.List.{AllByRecursion}
use Rattle.std.proofs.ByRecursion.{All-get_or}
use Rattle.std.proofs.lemmas.List.{length-append}
use Rattle.std.proofs.lemmas.Bool.{cases_lt}
use Rattle.packing.specs.declared.plan.Plan.{Plan}
use Rattle.packing.specs.declared.opening.OpeningRefusal.TheVariants.{Load, BadFrames}
use Rattle.packing.specs.Fitting.{Rule}
use Rattle.packing.specs.Made.{Planned}
use Rattle.packing.specs.Packing.{Within}
use Rattle.packing.specs.Plan.{all_tasks, idle, spare}
use Rattle.packing.specs.Openings.{OpeningAllowed}
use Rattle.packing.specs.Steps.{Limits}
use Rattle.packing.specs.Tables.{levels_in}
use Rattle.packing.proofs.Idle.{full_tasks, limits}
use Rattle.packing.proofs.Over.{take_over}
use Rattle.levels.specs.Opening.{opening}
use Rattle.levels.specs.Running.{Machine}
use Rattle.run.specs.declared.state.State.{State}
use Rattle.run.specs.Opened.{begin_idle, Filled, Fits, Opens, rates_in}

-- ---- a plan that was made

module _ (rule : Rule) (cores unit frames : ℕ) (sheet : List ℕ) (p : Plan) (allowed : OpeningAllowed cores unit frames sheet) (planned : Planned rule cores unit sheet p) where
  abbrev tasks : List ℕ
  tasks = all_tasks cores unit sheet

  abbrev machine_of : ℕ → Machine
  machine_of n = record { unit = n; frames = frames; cores = cores }

  a_frame : 1 ≤ frames
  a_frame = elim (cases_lt frames 1) [ inl few ↦ absurd (allowed BadFrames (inl few)) | inr some ↦ some ]

  few_frames : frames ≤ 65535
  few_frames = elim (cases_lt 65535 frames) [ inl many ↦ absurd (allowed BadFrames (inr many)) | inr few ↦ few ]

  rates_are : rates_in p ≡ tasks
  rates_are = ap rates_in planned.tables ∙ take_over tasks (replicate 80 0)

  pub fits_tables : Fits p cores frames (length sheet)
  fits_tables =
      let load : Limits cores unit sheet = limits cores unit sheet (λ f applies. allowed (Load f) applies) in
      let within : AllByRecursion (Within unit) tasks = (full_tasks cores unit sheet load).within in
      let count : length (rates_in p) ≡ length tasks = ap length rates_are in
      let same : p.unit ≡ unit = ap (λ q. q.unit) planned.tables in
      record {
        sheet_tasks = omega (arith, count, length-append sheet (idle unit (spare cores unit sheet)));
        rated = λ i below. omega (arith, (All-get_or (Within unit) tasks i 0 (omega (arith, count)) within).0, ap (λ xs. get_or xs i 0) rates_are);
        few_cores = load.few_cores;
        a_unit = omega (arith, same, load.a_unit);
        small_unit = omega (arith, same, load.small_unit);
        a_frame = a_frame;
        few_frames = few_frames;
      }

  -- what the tables show, by the sheet and its plan
  pub opens : (s : State) → Filled p cores frames (length sheet) s → Opens rule cores unit frames sheet s
  opens s filled =
      let rest : List ℕ = idle unit (spare cores unit sheet) in
      let count : length (rates_in p) ≡ length tasks = ap length rates_are in
      let idle_jobs : length (rates_in p) - length sheet ≡ length rest = omega (arith, count, length-append sheet rest) in
      record {
        allowed = allowed;
        plan = planned.plan;
        shows =
            filled.shows
            ∙ ap (λ xs. begin_idle frames (length sheet) (drop (length sheet) xs) (opening xs (levels_in p))) rates_are
            ∙ ap (λ xs. begin_idle frames (length sheet) xs (opening tasks (levels_in p))) (drop-append_seam sheet rest)
            ∙ ap (λ ls. begin_idle frames (length sheet) rest (opening tasks ls)) planned.levels;
        runs_on = filled.runs_on ∙ ap (λ q. machine_of q.unit) planned.tables;
        starts = filled.starts;
        sheet_tasks = filled.sheet_tasks;
        begun = filled.begun ∙ idle_jobs;
        unpreempted = filled.unpreempted;
        unplaced = filled.unplaced;
        none_unfinished = filled.none_unfinished;
        phased = filled.phased;
        within = filled.within;
        few_jobs = filled.few_jobs;
        table = filled.table;
      }
