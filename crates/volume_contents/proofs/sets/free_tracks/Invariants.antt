use Rattle.std.proofs.Common.{◌≡◌, take, flat_map}
use Rattle.volume_contents.specs.Sets.{pieces_in}
use Rattle.volume_contents.proofs.sets.free_tracks.Given as goal

-- the free tracks of the links so far
abbrev pub invariant-loop-link : goal.invariant-loop-link
invariant-loop-link l = l.pieces.items ≡ flat_map pieces_in (take l.link-index l.link-items)
