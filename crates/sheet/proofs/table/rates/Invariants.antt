use Rattle.std.proofs.Common.{◌≡◌, map, length, take}
use Rattle.sheet.proofs.table.rates.Given as goal

abbrev pub invariant-loop-i : goal.invariant-loop-i
invariant-loop-i l = (take l.i l.rates ≡ map (λ e. e.rate) (take l.i l.table)) × (length l.rates ≡ 64)
