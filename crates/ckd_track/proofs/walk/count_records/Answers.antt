-- One record further.
use Rattle.std.proofs.Common.{◌≡◌, ◌∙◌, sym, ap, Ok, Some, drop, arith}
use Rattle.ckd_track.specs.Track.{size_at}
use Rattle.ckd_track.proofs.Reading.{count_on, size_within}
use Rattle.ckd_track.proofs.walk.count_records.Goals as goal

pub loop-size-preserved : goal.loop-size-preserved
loop-size-preserved c =
    let s = c.args.slot.now in
    let there : size_at c.loop-size.at (drop c.loop-size.at s) ≡ Ok (Some c.in-Some.size) = sym c.record_size_at.ensures ∙ c.in_ok-size.was
    ∙ ap Ok c.in-Some.is in
    let fits = size_within s c.loop-size.at c.in-Some.size c.loop-size.invariant.within there in
    record {
      within = fits.2;
      long = omega (arith, fits.1);
      rest = sym (count_on s c.loop-size.records c.loop-size.at c.in-Some.size (omega arith) there) ∙ c.loop-size.invariant.rest;
    }
