use Rattle.std.proofs.Common.{◌≡◌, ◌≤◌, ◌<◌, List, ℕ, Some, [], length, slice_index_or}
use Rattle.ckd_track.specs.Track.{track_of}
use Rattle.ckd_track.specs.Geometry.{track_at}
use Rattle.dasd_archive.specs.Numbered.{Lacks}
use Rattle.dasd_archive.proofs.numbered.has_on_cylinder.Given as goal

-- the tracks so far lack the records; the volume stays, and the slot keeps its length
abbrev pub invariant-loop-head : goal.invariant-loop-head
invariant-loop-head g l =
    let before = g.V.SlotReader.volume l.fn.volume in record {
      lacks : (slots : List (List ℕ)) → before.slots ≡ Some slots → (head : ℕ) → head < l.head → l.part.heads.first ≤ head
          → Lacks l.part.numbers (track_of (slice_index_or slots (track_at before.geometry l.part.cylinder head) []));
      volume : g.V.SlotReader.volume l.volume ≡ before;
      failures : g.V.SlotReader.failures l.volume ≡ g.V.SlotReader.failures l.fn.volume;
      size : length l.slot ≡ before.geometry.track_size;
    }
