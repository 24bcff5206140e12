use Rattle.std.proofs.Common.{◌≡◌, drop}
use Rattle.sheet.specs.Forms.{value, value_on}
use Rattle.sheet.proofs.forms.value.Given as goal

abbrev pub invariant-loop-b : goal.invariant-loop-b
invariant-loop-b l = value_on l.sum (drop l.b-index l.digits) ≡ value l.digits
