use Rattle.std.proofs.Common.{◌≡◌, ◌++◌, ◌∷◌, [], length, get_or, ap, sym, ◌∙◌, subst, inr, arith}
use Rattle.packing.specs.Steps.{Placed}
use Rattle.packing.proofs.Fronts.{homes_count, packed_skip, packed_more, packed_full}
use Rattle.packing.proofs.Tabled.{from_parts}
use Rattle.packing.proofs.level.Level.pack.Goals as goal
use Rattle.packing.proofs.level.Level.pack.Goals.{then-rate-eq0, else-rate-eq0+in_ok-place}

pub returns-in_err-place : goal.returns-in_err-place
returns-in_err-place g c =
    let full = c.in_err-place.ensures in
    simp c.from_residual.ensures
    (inr (packed_full (g.F.Fitting.fits c.args.rule.now) c.args.unit c.args.items.now c.loop-rate.rate-index (from_parts c.loop-rate.homes.items c.loop-rate.rates.items)
    c.loop-rate-test.true c.loop-rate.invariant.packed (omega arith) full.0 full.1))

pub push-requires : goal.push-requires
push-requires g c =
    let p = from_parts c.loop-rate.homes.items c.loop-rate.rates.items in
    let count : length p.homes ≡ c.loop-rate.rate-index =
    homes_count (g.F.Fitting.fits c.args.rule.now) c.args.unit c.args.items.now c.loop-rate.rate-index p c.loop-rate-test.true c.loop-rate.invariant.packed in
    (omega arith, omega arith)

pub loop-rate-preserved : goal.loop-rate-preserved
loop-rate-preserved g c =
    let rule = g.F.Fitting.fits c.args.rule.now in
    let p = from_parts c.loop-rate.homes.items c.loop-rate.rates.items in
    let rate = get_or c.args.items.now c.loop-rate.rate-index 0 in
    elim c.if-rate-eq0.branch [
      | then-rate-eq0 w ↦ record {
        packed =
            packed_skip rule c.args.unit c.args.items.now c.loop-rate.rate-index p c.loop-rate-test.true c.loop-rate.invariant.packed w.if-rate-eq0.true _ (cc) (cc);
        few = omega (arith, ap (λ r. length r.items) w.rates-is, c.loop-rate.invariant.few);
      }
      | else-rate-eq0+in_ok-place w ↦ record {
        packed =
            packed_more rule c.args.unit c.args.items.now c.loop-rate.rate-index p c.loop-rate-test.true c.loop-rate.invariant.packed w.if-rate-eq0.false
            w.in_ok-place.field-0 _
            (subst (Placed (rule p.rates c.args.unit rate) p.rates rate w.in_ok-place.field-0) (sym (ap (λ r. r.items) w.rates-is)) w.in_ok-place.ensures)
            (c.push.ensures.items ∙ ap (λ h. p.homes ++ h ∷ []) w.home-is);
        few = let placed = w.in_ok-place.ensures in omega (arith, ap (λ r. length r.items) w.rates-is, placed.few);
      }
    ]
