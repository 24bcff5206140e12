use Rattle.std.proofs.Common.{refl}
use Rattle.cores.proofs.Frees.{some_not_none}
use Rattle.cores.proofs.Seats.{blank_slot}
use Rattle.cores.proofs.place.Cores.new.Goals as goal

pub returns : goal.returns
returns c = record { blank = refl; recorded = λ t d on. absurd (some_not_none _ t on (blank_slot 16 d)) }
