use Rattle.std.proofs.Common.{◌≡◌, ◌∙◌, ◌+◌, ◌-◌, ap, sym, length, get_or, drop, arith, ℕ}
use Rattle.record_tracks.specs.{Records.all_areas, Records.end_of_file, Records.charge_for, Records.last_charge_for, Tracks.fitting}
use Rattle.record_tracks.proofs.{Listed.length-left, Listed.area_at, Fitting.stops, Fitting.goes_on, Fitting.ends, Fitting.charges}
use Rattle.record_tracks.proofs.tracks.fitting.Goals as goal

pub returns-then-taken-last_charge_for-clause-count : goal.returns-then-taken-last_charge_for-clause-count
returns-then-taken-last_charge_for-clause-count c =
    let m = c.args.model in
    let left = drop c.args.from (all_areas c.args.blocks.now) in
    let k = c.loop-k.k in
    let last = c.last_charge_for.ensures
    ∙ ap (last_charge_for m) (sym (area_at c.args.blocks.now c.args.from k _ (omega (arith, c.loop-k-test.true)))) in
    stops m left k c.loop-k.taken end_of_file c.loop-k.invariant.fit
    (omega (arith, length-left c.args.blocks.now c.args.from, c.loop-k-test.true))
    (omega (arith, last, c.capacity.ensures, c.if-taken-last_charge_for.true))

pub loop-k-preserved : goal.loop-k-preserved
loop-k-preserved c =
    let m = c.args.model in
    let left = drop c.args.from (all_areas c.args.blocks.now) in
    let k = c.loop-k.k in
    let is = sym (area_at c.args.blocks.now c.args.from k _ (omega (arith, c.loop-k-test.true))) in
    let last = c.last_charge_for.ensures ∙ ap (last_charge_for m) is in
    let taken = c.charge_for-taken.ensures ∙ ap (charge_for m) is in
    let cost = charges m (get_or left k end_of_file) in record {
      taken = omega (arith, taken, last, cost.most, cost.capacity, c.capacity.ensures, c.if-taken-last_charge_for.false);
      fit = goes_on m left k c.loop-k.taken end_of_file c.loop-k.invariant.fit
          (omega (arith, length-left c.args.blocks.now c.args.from, c.loop-k-test.true))
          (omega (arith, last, c.capacity.ensures, c.if-taken-last_charge_for.false))
          ∙ ap (λ (n : ℕ). k + 1 + fitting m (c.loop-k.taken + n) (drop (k + 1) left)) (sym taken);
    }

pub returns-clause-count : goal.returns-clause-count
returns-clause-count c =
    let left = drop c.args.from (all_areas c.args.blocks.now) in
    let k : c.loop-k.k ≡ length c.args.blocks.now - c.args.from = omega arith in
    sym k ∙ ends c.args.model left c.loop-k.k c.loop-k.taken end_of_file c.loop-k.invariant.fit
    (omega (arith, k, length-left c.args.blocks.now c.args.from))
