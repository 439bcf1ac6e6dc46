use Rattle.std.proofs.Common.{rules}
use Rattle.loaded_sets.specs.Volumes.{labelled}
use Rattle.loaded_sets.proofs.RefusedPlaced.{untaken}
use Rattle.loaded_sets.proofs.plans.place_set.Goals as goal

pub returns : goal.returns
returns c = record {
  same = c.in_ok-run.ensures.same;
  kept = c.in_ok-run.ensures.kept;
  placed = record {
    gets = c.in_ok-run.ensures.tracks;
    taken = c.in_ok-changes.ensures.taken;
    some = c.in_ok-run.ensures.some;
    within = c.in_ok-run.ensures.within;
    new = c.new_set-block.ensures.says;
    run = c.new_set-block.ensures.run;
  };
  fault = tt;
  size = c.in_ok-run.ensures.size;
}

pub returns-in_err-changes : goal.returns-in_err-changes
returns-in_err-changes c =
    let run = c.in_ok-run.run' in
    let why = untaken (labelled c.args.volume.now) c.args.image.now.slots c.args.set.now run.first run.tracks
    c.in_ok-run.ensures.tracks c.in_err-changes.field-0.0 c.in_err-changes.ensures.fault in
    let same = c.in_ok-run.ensures.same in
    let kept = c.in_ok-run.ensures.kept in
    let size = c.in_ok-run.ensures.size in search rules
