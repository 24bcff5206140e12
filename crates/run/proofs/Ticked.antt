-- The tasks of a tick: each that is named goes through it, which takes one tick from it. Assumes nothing.
use Rattle.std.proofs.Common.{◌≡◌, ℕ, zero, suc, ◌≤◌, Bool, true, false, List, [], ◌∷◌, map, length, get_or, take, refl, ap, ◌∙◌, arith}
use Rattle.levels.specs.Ticking.{spend_item, spend_items}
use Rattle.run.specs.Phases.{next_in}
use Rattle.run.specs.Turns.{tick_if}
use Rattle.run.specs.Views.{item_of, blank_task}
use Rattle.run.specs.declared.task.Event.TheVariants.{Tick}
use Rattle.run.specs.declared.task.Phase.{Phase}
use Rattle.run.specs.declared.task.Phase.TheVariants.{Served, AtWork, Awaited}
use Rattle.run.specs.declared.task.Task.{Task}

by_phase : (p : Phase) (t : Task) → item_of (next_in p t Tick) ≡ spend_item true (item_of t)
by_phase Served t = refl
by_phase AtWork t = refl
by_phase Awaited t = refl

item_ticked : (b : Bool) (t : Task) → item_of (tick_if b t) ≡ spend_item b (item_of t)
item_ticked true t = by_phase t.phase t
item_ticked false t = refl

pub items_ticked : (test : ℕ → Bool) (n : ℕ) (ts ts' : List Task) → n ≤ length ts → length ts' ≡ length ts →
    ((i : ℕ) → get_or ts' i blank_task ≡ tick_if (test i) (get_or ts i blank_task)) → map item_of (take n ts') ≡ spend_items test (map item_of (take n ts))
items_ticked test zero ts ts' h l each = refl
items_ticked test (suc n) [] ts' h l each = absurd (omega arith)
items_ticked test (suc n) (t ∷ ts) [] h l each = absurd (omega arith)
items_ticked test (suc n) (t ∷ ts) (t' ∷ ts') h l each =
    let size : length ts' ≡ length ts = omega arith in
    λ i. (ap item_of (each 0) ∙ item_ticked (test 0) t) i ∷ items_ticked (λ q. test (suc q)) n ts ts' (omega arith) size (λ q. each (suc q)) i
