use Rattle.std.proofs.Common.{◌∙◌, ◌<◌, ◌+◌, ap, sym, ℕ, drop, length, arith, zero-add}
use Rattle.record_tracks.specs.{Records.all_areas, Tracks.fitting_on}
use Rattle.record_tracks.proofs.{Listed.length-all, Listed.all_go, Fitting.fits_on, Fitting.none_behind, Fitting.some_fit, Fitting.one_more}
use Rattle.record_tracks.proofs.tracks.place_of.Goals as goal

pub loop-behind-init : goal.loop-behind-init
loop-behind-init c = record {
  few = omega arith;
  passed = omega arith;
  left = sym (none_behind c.args.model (all_areas c.args.blocks.now));
  behind = c.fitting-behind.ensures.count ∙ sym (zero-add (fitting_on c.args.model (all_areas c.args.blocks.now)));
  within = omega arith;
}

pub loop-behind-smaller : goal.loop-behind-smaller
loop-behind-smaller c =
    let all = all_areas c.args.blocks.now in
    let next = c.loop-behind.next in
    let there : next < length all = omega (arith, length-all c.args.blocks.now) in
    let some = some_fit c.args.model all next (all_go c.args.model c.args.blocks.now c.requires.each) there in omega arith

pub loop-behind-preserved : goal.loop-behind-preserved
loop-behind-preserved c =
    let m = c.args.model in
    let all = all_areas c.args.blocks.now in
    let next = c.loop-behind.next in
    let there : next < length all = omega (arith, length-all c.args.blocks.now) in
    let some = some_fit m all next (all_go m c.args.blocks.now c.requires.each) there in record {
      few = omega arith;
      passed = c.loop-behind-test.true;
      left = cc (one_more m all next c.loop-behind.track c.loop-behind.invariant.left);
      behind = ap (λ (n : ℕ). c.loop-behind.behind + n) c.fitting-behind-in-loop-behind.ensures.count;
      within = c.fitting-behind-in-loop-behind.ensures.within;
    }

pub overflow_cast-result : goal.overflow_cast-result
overflow_cast-result c = let few = (fits_on c.args.model 0 (drop c.loop-behind.next (all_areas c.args.blocks.now))).few in omega arith

pub returns : goal.returns
returns c = record {
  before = c.loop-behind.next;
  left = sym c.loop-behind.invariant.left;
  place = omega arith;
  first = omega arith;
  there = (let fit = ap (fitting_on c.args.model) c.loop-behind.invariant.left in
      omega arith);
}
