use Rattle.std.proofs.Common.{◌≡◌, ◌-◌, ◌^◌, min, sum_by, take}
use Rattle.volume_contents.specs.Sets.{number_of_free}
use Rattle.volume_contents.proofs.tracks.tracks_of_pieces.Given as goal

-- the tracks of the pieces so far
abbrev pub invariant-loop-piece : goal.invariant-loop-piece
invariant-loop-piece l = l.tracks ≡ min (sum_by (number_of_free l.geometry) (take l.piece-index l.pieces)) (2 ^ 64 - 1)
