use Rattle.std.proofs.Common.{◌≡◌, ◌∙◌, ◌<◌, sym, length, arith}
use Rattle.std.proofs.lemmas.List.{drop_all}
use Rattle.record_tracks.specs.Records.{all_areas}
use Rattle.record_tracks.proofs.{Listed.length-all, Listed.all_go, Reading.read_back, Reading.read_as_data}
use Rattle.record_tracks.proofs.Fitting.{none_behind, some_fit, some_left, one_more}
use Rattle.record_tracks.proofs.tracks.tracks_needed.Goals as goal

pub loop-next-init : goal.loop-next-init
loop-next-init c = record {
  within = omega arith;
  few = omega arith;
  left = sym (none_behind c.args.model (all_areas c.args.blocks.now));
  fewest = λ n is _. absurd (omega arith);
}

pub loop-next-smaller : goal.loop-next-smaller
loop-next-smaller c =
    let all = all_areas c.args.blocks.now in
    let there : c.loop-next.next < length all = omega (arith, length-all c.args.blocks.now) in
    let some = some_fit c.args.model all c.loop-next.next (all_go c.args.model c.args.blocks.now c.requires.each) there in omega arith

pub loop-next-preserved : goal.loop-next-preserved
loop-next-preserved c =
    let m = c.args.model in
    let all = all_areas c.args.blocks.now in
    let next = c.loop-next.next in
    let there : next < length all = omega (arith, length-all c.args.blocks.now) in
    let some = some_fit m all next (all_go m c.args.blocks.now c.requires.each) there in
    let count = c.fitting-next.ensures.count in record {
      within = c.fitting-next.ensures.within;
      few = omega arith;
      left = cc (one_more m all next c.loop-next.tracks c.loop-next.invariant.left);
      fewest = λ n is none.
          let last : n ≡ c.loop-next.tracks = omega arith in some_left all next there (cc);
    }

pub returns : goal.returns
returns c = let all = all_areas c.args.blocks.now in record {
  tracks = record {
    all = sym c.loop-next.invariant.left ∙ drop_all c.loop-next.next all (omega (arith, length-all c.args.blocks.now));
    fewest = c.loop-next.invariant.fewest;
  };
  read = read_back c.args.model all (all_go c.args.model c.args.blocks.now c.requires.each);
  stored = λ form. read_as_data form c.args.model all (all_go c.args.model c.args.blocks.now c.requires.each);
}
