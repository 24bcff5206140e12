-- The tasks that a tick leaves unfinished, and those that it preempts. Assumes nothing.
use Rattle.std.proofs.Common.{ℕ, ◌≤◌, Bool, not, List, length, filter, refl, arith}
use Rattle.cores.specs.Counting.{preemptions}
use Rattle.cores.specs.Naming.{member}
use Rattle.std.proofs.lemmas.List.Filters.{length-filter_both}

pub kept_few : (p : ℕ → Bool) (xs : List ℕ) → length (filter p xs) ≤ length xs
kept_few p xs = omega (arith, length-filter_both p (λ x. not (p x)) (λ x. refl) xs)

pub preempted_few : (unfinished named : List ℕ) → preemptions unfinished named ≤ length unfinished
preempted_few unfinished named = kept_few (λ t. not (member t named)) unfinished
