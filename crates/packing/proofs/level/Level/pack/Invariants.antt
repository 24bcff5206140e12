use Rattle.std.proofs.Common.{◌≡◌, ◌≤◌, length, take}
use Rattle.packing.specs.Packing.{packing_of}
use Rattle.packing.proofs.Tabled.{from_parts}
use Rattle.packing.proofs.level.Level.pack.Given as goal

-- the first items are packed
abbrev pub invariant-loop-rate : goal.invariant-loop-rate
invariant-loop-rate g l = record {
  packed : from_parts l.homes.items l.rates.items ≡ packing_of (g.F.Fitting.fits l.rule) l.unit (take l.rate-index l.items);
  few : length l.rates.items ≤ 31;
}
