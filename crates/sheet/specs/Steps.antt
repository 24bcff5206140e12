-- What the inner steps of reading answer; only contracts of private functions cite this.
use Rattle.std.specs.Prelude.{◌≡◌, ℕ, ◌+◌, Bool, cond, not, ◌||◌, List, [], ◌∷◌, length, drop, Some, None, Option, ◌==◌, slice_range}
use Rattle.sheet.specs.Forms.{digit, capital}
use Rattle.sheet.specs.Parts.{lines}
use Rattle.sheet.specs.declared.class.Class.{Class}
use Rattle.sheet.specs.declared.class.Class.TheVariants.{Digit, Capital, Comma, Feed, Other}
use Rattle.sheet.specs.declared.line.Line.{Line}

-- What a byte may be part of.
abbrev pub class_of : ℕ → Class
class_of b = cond (digit b) Digit (cond (capital b) Capital (cond (b == 44) Comma (cond (b == 10) Feed Other)))

-- The bytes of a class.
abbrev pub of_class : Class → ℕ → Bool
of_class Digit b = digit b
of_class Capital b = capital b
of_class Comma b = b == 44
of_class Feed b = b == 10
of_class Other b = not (digit b || (capital b || (b == 44 || b == 10)))

-- The bytes of a line.
abbrev pub body : Line → List ℕ
body l = slice_range l.sheet.now l.start l.end

-- The next line of a sheet from `at` on, which has this number: none, and no line is left; or the first of the lines that are
-- left, and behind its line feed, at `next`, the others are left, from the number `after` on.
abbrev pub NextLine : List ℕ → ℕ → ℕ → ℕ → ℕ → Option Line → Type 0
NextLine bs number at after next None = (lines (drop at bs) ≡ []) × (after ≡ number) × (next ≡ at)
NextLine bs number at after next (Some l) =
    (lines (drop at bs) ≡ body l ∷ lines (drop next bs)) × (l.sheet.now ≡ bs) × (l.number ≡ number) × (l.start ≡ at) ×
    (after ≡ number + 1) × (next ≡ at + length (body l) + 1)
