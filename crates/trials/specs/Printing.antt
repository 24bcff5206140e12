-- How an answer is printed. A reader of the contracts has to believe this file.
use Rattle.std.specs.Prelude.{ℕ, min, cond, List, [], ◌∷◌, ◌++◌, take, Some, None, Option, codes, decimal}
use Rattle.packing.specs.Openings.{opening_row}
use Rattle.packing.specs.Refusals.{Row}
use Rattle.run.specs.declared.call.Reply.TheVariants.{Done, Named, Number, Truth}
use Rattle.run.specs.declared.call.Reply.{Reply as RunReply}
use Rattle.run.specs.Refusals.{row}
use Rattle.trials.specs.declared.answer.Refused.{Refused}
use Rattle.trials.specs.declared.answer.Refused.TheVariants.{Opening, Call}
use Rattle.trials.specs.declared.answer.Reply.{Reply}
use Rattle.trials.specs.declared.answer.Reply.TheVariants.{Told, Cores}

-- Numbers, each after a comma.
abbrev pub after_commas : List ℕ → List ℕ
after_commas [] = []
after_commas (n ∷ ns) = codes "," ++ (decimal n ++ after_commas ns)

-- Numbers, with a comma between two.
abbrev pub with_commas : List ℕ → List ℕ
with_commas [] = []
with_commas (n ∷ ns) = decimal n ++ after_commas ns

-- The row of a refusal, and its number with the task that it names.
abbrev pub row_of : Refused → Row
row_of (Opening e) = opening_row e
row_of (Call e) = row e

abbrev pub numbered : ℕ → Option ℕ → List ℕ
numbered n None = codes "no," ++ decimal n
numbered n (Some i) = codes "no," ++ (decimal n ++ (codes "," ++ decimal i))

abbrev pub printed_refusal : Refused → List ℕ
printed_refusal e = numbered (row_of e).number (row_of e).task

-- A list of the cores has at most 16.
abbrev pub printed_told : RunReply → List ℕ
printed_told Done = codes "ok"
printed_told (Named l) = with_commas (take (min l.cores 16) l.tasks)
printed_told (Number n) = decimal n
printed_told (Truth b) = cond b (codes "true") (codes "false")

abbrev pub printed_reply : Reply → List ℕ
printed_reply (Told r) = printed_told r
printed_reply (Cores list) = with_commas list.items
