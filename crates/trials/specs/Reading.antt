-- How the fields of a line write the words and numbers of a call. A reader of the contracts has to believe this file.
use Rattle.std.specs.Prelude.{◌≡◌, ℕ, ◌≤◌, List, Some, None, codes, decimal, Option, ◌≢◌}
use Rattle.trials.specs.declared.call.Fit.{Fit}
use Rattle.trials.specs.declared.call.Fit.TheVariants.{First, Best, Worst}
use Rattle.trials.specs.declared.call.Choose.{Choose}
use Rattle.trials.specs.declared.call.Choose.TheVariants.{Earliest, Slack}

-- What is read from a text is the value that is written so; there is none exactly if no value that is allowed is written so.
abbrev pub Reads : {X T : Type 0} → (X → Type 0) → (X → T) → T → Option X → Type 0
Reads allowed written text (Some x) = allowed x × (text ≡ written x)
Reads {X} allowed written text None = (x : X) → allowed x → text ≢ written x

-- A number up to the highest: digits, with no leading zero unless it is 0.
abbrev pub ReadsUpTo : ℕ → List ℕ → Option ℕ → Type 0
ReadsUpTo most = Reads (λ n. n ≤ most) decimal

-- A word for each rule.
abbrev pub Any : {X : Type 0} → X → Type 0
Any x = Unit {0}

abbrev pub fit_word : Fit → List ℕ
fit_word First = codes "first"
fit_word Best = codes "best"
fit_word Worst = codes "worst"

abbrev pub choose_word : Choose → List ℕ
choose_word Earliest = codes "earliest"
choose_word Slack = codes "slack"
