-- What a token holds, and which the next one is. A reader of the contracts has to believe this file.
use Rattle.std.specs.Prelude.{◌≡◌, ℕ, ◌+◌, true, false, List, [], ◌∷◌, length, take, drop, Some, None, Option}
use Rattle.std.specs.List.{list_all}
use Rattle.sheet.specs.Forms.{digit, name_byte}
use Rattle.sheet.specs.Parts.{fields_from}
use Rattle.sheet.specs.declared.token.Token.{Token}
use Rattle.sheet.specs.declared.token.Token.TheVariants.{Name, Number, Keyword}

-- The text of a token, and its place.
abbrev pub text_of : Token → List ℕ
text_of (Name text place) = text.now
text_of (Number text place) = text.now
text_of (Keyword text place) = text.now

abbrev pub place_of : Token → ℕ
place_of (Name text place) = place
place_of (Number text place) = place
place_of (Keyword text place) = place

-- A token is of the kind that its bytes say: digits alone are a number, capitals and digits a name, any other text has to
-- be a word that the reader knows.
abbrev pub Fits : Token → Type 0
Fits (Name text place) = (list_all digit text.now ≡ false) × (list_all name_byte text.now ≡ true)
Fits (Number text place) = list_all digit text.now ≡ true
Fits (Keyword text place) = (list_all digit text.now ≡ false) × (list_all name_byte text.now ≡ false)

-- A token is handed on as the part of the text that it occupies.
abbrev pub Occupies : List ℕ → Token → Type 0
Occupies bs t = text_of t ≡ take (length (text_of t)) (drop (place_of t) bs)

-- The next token of a text from `at` on: none, and no field is left; or one that holds the first of the fields that are
-- left, and behind its comma, at `end`, the others are left.
abbrev pub Next : List ℕ → ℕ → ℕ → Option Token → Type 0
Next bs at end None = (fields_from bs at ≡ []) × (end ≡ at)
Next bs at end (Some t) =
    (fields_from bs at ≡ text_of t ∷ fields_from bs end) × (place_of t ≡ at) × (end ≡ at + length (text_of t) + 1) × Fits t × Occupies bs t
