-- The forms of a field: a word, a number, a period, a name. A reader of the contracts has to believe this file.
use Rattle.std.specs.Prelude.{ℕ, ◌+◌, ◌-◌, ◌*◌, Bool, cond, not, ◌&&◌, ◌||◌, List, [], ◌∷◌, length, Some, None, Option, ◌==◌, nat_le, nat_lt, slice_index}
use Rattle.std.specs.List.{list_all}
use Rattle.std.specs.Str.{bytes_eq}

-- '0' to '9'.
abbrev pub digit : ℕ → Bool
digit b = nat_le 48 b && nat_le b 57

-- 'A' to 'Z'.
abbrev pub capital : ℕ → Bool
capital b = nat_le 65 b && nat_le b 90

-- A byte that a name may have.
abbrev pub name_byte : ℕ → Bool
name_byte b = digit b || capital b

-- The field is this word.
abbrev pub is_word : List ℕ → List ℕ → Bool
is_word word bs = bytes_eq bs word

-- The number that digits write after others that write `v`.
abbrev pub value_on : ℕ → List ℕ → ℕ
value_on v [] = v
value_on v (b ∷ bs) = value_on (v * 10 + (b - 48)) bs

-- The number that digits write.
abbrev pub value : List ℕ → ℕ
value bs = value_on 0 bs

-- 1 to 5 digits, with no leading zero unless there is one digit.
abbrev pub written_well : List ℕ → Bool
written_well bs =
    list_all digit bs && (nat_lt 0 (length bs) && (nat_le (length bs) 5 && (length bs == 1 || not (slice_index bs 0 == 48))))

-- A number: written well, and at most 65,535.
abbrev pub is_number : List ℕ → Bool
is_number bs = written_well bs && nat_le (value bs) 65535

-- A period: a number of 1 or more.
abbrev pub is_period : List ℕ → Bool
is_period bs = is_number bs && not (value bs == 0)

-- A name: 1 to 12 bytes of 'A' to 'Z' and '0' to '9'.
abbrev pub is_name : List ℕ → Bool
is_name bs = list_all name_byte bs && (nat_lt 0 (length bs) && nat_le (length bs) 12)

-- The number that a field writes, if it is of the form asked for.
abbrev pub number : List ℕ → Option ℕ
number bs = cond (is_number bs) (Some (value bs)) None

abbrev pub period : List ℕ → Option ℕ
period bs = cond (is_period bs) (Some (value bs)) None
