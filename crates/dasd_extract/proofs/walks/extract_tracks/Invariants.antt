use Rattle.std.proofs.Common.{◌≡◌, ◌≤◌, List, ℕ, Some, None, length}
use Rattle.counted_io.specs.Streams.{seen_by, NoneFailed}
use Rattle.dasd_extract.specs.Written.{until_stop}
use Rattle.dasd_extract.specs.Walk.{wanted, track_told, alternates_read}
use Rattle.dasd_extract.proofs.Printings.{Printed}
use Rattle.dasd_extract.proofs.walks.extract_tracks.Given as goal

-- the tracks so far are printed, none has ended it and no call failed; the volume stays, the slot keeps its length, and the alternates
-- are counted
abbrev pub invariant-loop-i : goal.invariant-loop-i
invariant-loop-i g l =
    let before = g.V.SlotReader.volume l.fn.volume in
    let s = wanted l.source.form l.source.extents.now l.source.start l.source.tracks in record {
      written : (slots : List (List ℕ)) → before.slots ≡ Some slots
          → Printed (until_stop (track_told s before.geometry slots) l.i)
          (seen_by g.W.Write.contents l.fn.writer) (seen_by g.W.Write.contents l.writer) None;
      alternates : (slots : List (List ℕ)) → before.slots ≡ Some slots → l.room.alternates ≡ alternates_read s before.geometry slots l.i;
      few : l.room.alternates ≤ l.i;
      sound : NoneFailed (seen_by g.W.Write.contents l.fn.writer) (seen_by g.W.Write.contents l.writer);
      volume : g.V.SlotReader.volume l.volume ≡ before;
      failures : g.V.SlotReader.failures l.volume ≡ g.V.SlotReader.failures l.fn.volume;
      size : length l.room.slot.items ≡ before.geometry.track_size;
    }
