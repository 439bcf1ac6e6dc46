use Rattle.std.proofs.Common.{◌≡◌, List, ℕ, Some, None, length}
use Rattle.counted_io.specs.Streams.{seen_by, NoneFailed}
use Rattle.dasd_extract.specs.Written.{until_stop}
use Rattle.dasd_extract.specs.Raw.{track_copied}
use Rattle.dasd_extract.proofs.Printings.{Printed}
use Rattle.dasd_extract.proofs.raw.copy_all.Given as goal

-- the tracks so far are printed, none has ended it and no call failed; the volume stays, and the slot keeps its length
abbrev pub invariant-loop-i : goal.invariant-loop-i
invariant-loop-i g l =
    let before = g.V.SlotReader.volume l.fn.volume in record {
      written : (slots : List (List ℕ)) → before.slots ≡ Some slots
          → Printed (until_stop (track_copied l.extents before.geometry slots) l.i)
          (seen_by g.W.Write.contents l.fn.writer) (seen_by g.W.Write.contents l.writer) None;
      sound : NoneFailed (seen_by g.W.Write.contents l.fn.writer) (seen_by g.W.Write.contents l.writer);
      volume : g.V.SlotReader.volume l.volume ≡ before;
      failures : g.V.SlotReader.failures l.volume ≡ g.V.SlotReader.failures l.fn.volume;
      size : length l.slot ≡ before.geometry.track_size;
    }
