-- Rules that are no choosing rules. A reader of the contracts has to believe this file.
use Rattle.std.specs.Prelude.{Some, None, position}
use Rattle.choosing.specs.Choosing.{Rule, Lawful}
use Rattle.choosing.specs.Rules.{has_left}

-- Always the first client; always none.
abbrev pub always_first : Rule
always_first s cs = Some 0

abbrev pub always_none : Rule
always_none s cs = None

-- By fixed priority: the first client with left, whatever its deadline.
abbrev pub fixed_priority : Rule
fixed_priority s cs = position has_left cs

-- None of them is lawful.
pub record CarelessRulesAreUnlawful : Type 0 where
  pub first : Lawful always_first → ⊥
  pub none : Lawful always_none → ⊥
  pub priority : Lawful fixed_priority → ⊥
