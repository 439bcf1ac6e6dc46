-- The walk stands where the record of its number begins.
use Rattle.std.proofs.Common.{◌≡◌, slice_index}
use Rattle.ckd_track.specs.Track.{track_in, record_offsets}
use Rattle.ckd_track.proofs.walk.offset_of.Given as goal

abbrev pub invariant-loop : goal.invariant-loop
invariant-loop l = l.at ≡ slice_index (record_offsets (track_in l.slot)) l.counter
