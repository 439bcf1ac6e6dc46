use Rattle.std.proofs.Common.{◌≡◌, ◌+◌, List, ℕ, Some}
use Rattle.dasd_volumes.specs.Volumes.{of_each}
use Rattle.volume_contents.specs.Blocks.{Adds}
use Rattle.volume_contents.specs.Contents.{blocks_of_track, findings_of_track}
use Rattle.volume_contents.proofs.reading.read_tracks.Given as goal

-- the blocks and findings of the tracks so far are added; the volume stays
abbrev pub invariant-loop-i : goal.invariant-loop-i
invariant-loop-i g l = let before = g.V.SlotReader.volume l.fn.volume in record {
  blocks : (slots : List (List ℕ)) → before.slots ≡ Some slots
      → Adds l.fn.found l.found (of_each (λ i. blocks_of_track before.geometry slots (l.tracks.first + i)) l.i)
      (of_each (λ i. findings_of_track before.geometry slots (l.tracks.first + i)) l.i);
  volume : g.V.SlotReader.volume l.volume ≡ before;
  failures : g.V.SlotReader.failures l.volume ≡ g.V.SlotReader.failures l.fn.volume;
}
