-- A text cut at each byte of one kind: a sheet into lines, a line into fields. A reader of the contracts has to believe this file.
use Rattle.std.specs.Prelude.{ℕ, cond, List, [], ◌∷◌, length, drop, ◌==◌, nat_le}

-- A byte put before the first part.
abbrev pub onto : ℕ → List (List ℕ) → List (List ℕ)
onto b [] = (b ∷ []) ∷ []
onto b (p ∷ ps) = (b ∷ p) ∷ ps

-- The parts of a text between the bytes `cut`, where `end` is what an empty text has.
abbrev pub parts : ℕ → List (List ℕ) → List ℕ → List (List ℕ)
parts cut end [] = end
parts cut end (b ∷ bs) = cond (b == cut) ([] ∷ parts cut end bs) (onto b (parts cut end bs))

-- After each line stands a line feed: an empty text has no line. (What follows the last line feed counts as a line too; a
-- sheet that has such a rest is refused for it.)
abbrev pub lines : List ℕ → List (List ℕ)
lines bs = parts 10 [] bs

-- Between two fields stands a comma: an empty text has one empty field.
abbrev pub fields : List ℕ → List (List ℕ)
fields bs = parts 44 ([] ∷ []) bs

-- The fields that begin at `at` or later; past the end of the text there is none.
abbrev pub fields_from : List ℕ → ℕ → List (List ℕ)
fields_from bs at = cond (nat_le at (length bs)) (fields (drop at bs)) []
