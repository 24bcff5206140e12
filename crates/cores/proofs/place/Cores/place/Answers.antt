use Rattle.std.proofs.Common.{◌≡◌, ◌≤◌, length, sym, subst, arith, rules}
use Rattle.cores.specs.Laws.{Lawful, Listed}
use Rattle.cores.specs.Placing.{limited, placed}
use Rattle.cores.proofs.Lawfulness.{lawful}
use Rattle.cores.proofs.Listing.{listed}
use Rattle.cores.proofs.place.Cores.place.Goals as goal

pub returns : goal.returns
returns c =
    let before = c.args.self.now in
    let named = c.args.named.now in
    let n = limited c.args.cores in
    let few : limited c.args.cores ≤ 16 = omega arith in
    let tasks : length c.args.self.now.last ≡ 80 = search rules in
    let after : c.settle_rest.new.self ≡ placed before named n = search rules in
    let laws = subst (Lawful before named n) (sym after) (lawful before named n 16 few tasks) in
    record {
      placed = after;
      list = c.write.ensures;
      lawful = laws;
      listed = subst (Listed named n c.settle_rest.new.self c.args.list.now) (sym c.write.ensures) (listed laws c.args.list.now);
    }
