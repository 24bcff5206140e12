-- A granted tick keeps the law of histories. Assumes nothing.
use Rattle.std.proofs.Common.{◌≡◌, ℕ, ◌<◌, ◌≤◌, List, length, take, sym, refl, ap, ◌∙◌, subst, arith}
use Rattle.std.specs.List.{AllByRecursion}
use Rattle.std.proofs.ByRecursion.{All-weaker}
use Rattle.std.proofs.lemmas.Bool.{ltb-false}
use Rattle.choosing.specs.Choosing.{Rule}
use Rattle.cores.specs.Naming.{member, Names}
use Rattle.cores.specs.Placing.{limited}
use Rattle.cores.specs.Laws.{Fitting}
use Rattle.ledger.specs.Answering.{tick_refusals, Unless, Grants}
use Rattle.ledger.specs.Calls.{tick, named}
use Rattle.ledger.specs.Scheduler.{running, granted, unless}
use Rattle.ledger.specs.Scheduler.{Names as NamesRun}
use Rattle.ledger.specs.Theorems.{CallConforms}
use Rattle.ledger.proofs.Tables.{none_holds}
use Rattle.ledger.proofs.Conforming.{every_call_conforms, names_fill}
use Rattle.run.specs.declared.state.State.{State}
use Rattle.run.specs.Runs.{setting_of, run_of, figures_of, named_by, GrantedTick}
use Rattle.run.proofs.Listing.{below_passing}
use Rattle.run.proofs.Unsized.{KeptUnsized}

module _ (choose : Rule) (s : State) (kept : KeptUnsized s) (old new : List ℕ) (s' : State) (t : GrantedTick choose s old s' new) where
  pub wide : s.cores ≤ length old
  wide = ltb-false (length old) s.cores (none_holds (tick_refusals (figures_of s) (length old)) (sym t.granted)).1.0

  all_cores : limited s.cores ≡ s.cores
  all_cores = omega (arith, s.few_cores)

  below : AllByRecursion (λ i. i < 80) (named_by choose s)
  below = All-weaker (λ i. i < s.count) (λ i. i < 80) (λ i h. omega (arith, s.few_tasks)) (named_by choose s) (below_passing s.count (running (setting_of choose s) (run_of s)))

  -- the core list names just the tasks that run, where there are as many as cores
  listed_names : length (named_by choose s) ≡ s.cores → NamesRun (setting_of choose s) (run_of s) (take s.cores new)
  listed_names fill =
      let fits : Fitting (named_by choose s) (limited s.cores) = record { different = t.exactly.0; tasks = below; enough = omega (arith, all_cores) } in
      let shown : Names (λ i. member i (named_by choose s)) (take (limited s.cores) new) = t.listed.names fits (fill ∙ sym all_cores) (omega (arith, all_cores, wide)) in
      let now : Names (λ i. member i (named_by choose s)) (take s.cores new) = subst (λ n. Names (λ i. member i (named_by choose s)) (take n new)) all_cores shown in
      (now.0, λ i. now.1 i ∙ t.exactly.1 i)

  pub tick_law : CallConforms (setting_of choose s) (run_of s) (tick (length old)) (named (take s.cores new)) (run_of s')
  tick_law o g entries reached =
      let here = setting_of choose s in
      let now = run_of s in
      let fill = names_fill o g entries here now reached (length old) (sym t.granted) (named_by choose s) t.exactly in
      let tasks = take s.cores new in
      let answers = subst (λ x. Unless x (named tasks) (Grants (figures_of s) (NamesRun here now) (tick (length old)) (named tasks))) t.granted (tasks, refl, listed_names fill) in
      let next = t.goes ∙ ap (λ x. unless x now (granted here now (tick (length old)))) t.granted in
      every_call_conforms here now (tick (length old)) (named tasks) (run_of s') (answers, next) o g entries reached
