use Rattle.std.proofs.Common.{◌≡◌, ◌+◌, List, ℕ, Some, length}
use Rattle.std.specs.List.{flat_map, FoldsTo}
use Rattle.counted_io.specs.Streams.{seen_by, Takes, NoneFailed}
use Rattle.dasd_volumes.specs.Volumes.{of_each, ReadTrack, tracks_on}
use Rattle.dasd_volumes.proofs.walks.each_track.Given as goal

-- the tracks of the cylinders so far were handed over and their text is printed, and no call failed; the volume and the slot's length stay
abbrev pub invariant-loop-i : goal.invariant-loop-i
invariant-loop-i g l =
    let before = g.V.SlotReader.volume l.fn.volume in
    let tracks = l.fn.tracks in
    let read : (slots : List (List ℕ)) → List ReadTrack = λ slots.
    of_each (λ k. tracks_on tracks.heads (tracks.cylinders.first + k) before.geometry slots) l.i in
    record {
      text : g.T.EachTrack.IsKnown l.fn.each → (slots : List (List ℕ)) → before.slots ≡ Some slots
          → Takes (seen_by g.W.Write.contents l.fn.writer) (seen_by g.W.Write.contents l.writer)
          (flat_map (g.T.EachTrack.text l.fn.each) (read slots));
      sound : NoneFailed (seen_by g.W.Write.contents l.fn.writer) (seen_by g.W.Write.contents l.writer);
      noted : (slots : List (List ℕ)) → before.slots ≡ Some slots → FoldsTo g.T.EachTrack.Notes l.fn.each (read slots) l.each;
      volume : g.V.SlotReader.volume l.volume ≡ before;
      reads : g.V.SlotReader.failures l.volume + g.T.EachTrack.failures l.each
          ≡ g.V.SlotReader.failures l.fn.volume + g.T.EachTrack.failures l.fn.each;
      same : g.T.EachTrack.text l.each ≡ g.T.EachTrack.text l.fn.each;
      known : g.T.EachTrack.IsKnown l.fn.each → g.T.EachTrack.IsKnown l.each;
      ready : g.T.EachTrack.IsFor before.geometry l.each;
      keeps : g.T.EachTrack.Keeps l.fn.each l.each;
      size : length l.slot ≡ before.geometry.track_size;
    }
