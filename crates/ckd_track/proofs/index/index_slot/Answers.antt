-- One record further, whose offset is noted.
use Rattle.std.proofs.Common.{◌≡◌, ◌∙◌, sym, ap, ◌<◌, ◌+◌, Ok, Some, length, take, drop, arith, length-set}
use Rattle.std.proofs.lemmas.Grind.{drop_more_same}
use Rattle.std.proofs.lemmas.List.{take_more_set, drop-set-lt}
use Rattle.ckd_track.specs.Track.{size_at}
use Rattle.ckd_track.proofs.Reading.{count_on, note_on, size_within}
use Rattle.ckd_track.proofs.index.index_slot.Goals as goal

pub loop-size-preserved : goal.loop-size-preserved
loop-size-preserved c =
    let s = c.args.slot.now in
    let n = c.loop-size.records in
    let table = c.loop-size.table in
    let there : size_at c.loop-size.at (drop c.loop-size.at s) ≡ Ok (Some c.in-Some.size) = sym c.record_size_at.ensures ∙ c.in_ok-size.was
    ∙ ap Ok c.in-Some.is in
    let fits = size_within s c.loop-size.at c.in-Some.size c.loop-size.invariant.within there in
    let in_table : n < length table = omega (arith, fits.1, fits.2, c.requires.room) in
    record {
      within = fits.2;
      long = omega (arith, fits.1);
      room = omega (arith, length-set table n c.loop-size.at);
      rest = sym (count_on s n c.loop-size.at c.in-Some.size (omega arith) there) ∙ c.loop-size.invariant.rest;
      offsets = rw (take_more_set table n c.loop-size.at in_table) (sym (note_on s (take n table) n c.loop-size.at c.in-Some.size
          (omega arith) there) ∙ c.loop-size.invariant.offsets);
      behind = drop-set-lt (n + 1) table n c.loop-size.at (omega arith)
          ∙ drop_more_same table c.args.table.now n c.loop-size.invariant.behind;
    }
