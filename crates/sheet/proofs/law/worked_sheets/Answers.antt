use Rattle.std.proofs.Common.{refl}
use Rattle.sheet.proofs.law.worked_sheets.Goals as goal

pub returns : goal.returns
returns c =
    record {
      reads = refl;
      empty = refl;
      unended = refl;
      version = refl;
      missing = refl;
      empty_line = refl;
      other_word = refl;
      no_name = refl;
      leading_zero = refl;
      no_period = refl;
      too_high = refl;
      twice = refl;
      none = refl;
      cores = refl;
      unit = refl;
      frames = refl;
      second_task = refl;
      overload = refl;
    }
