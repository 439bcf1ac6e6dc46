use Rattle.std.proofs.Common.{◌≡◌, ◌++◌, take}
use Rattle.volume_contents.specs.Sets.{used_pieces}
use Rattle.volume_contents.proofs.sets.push_pieces.Given as goal

-- those so far that are free tracks are there
abbrev pub invariant-loop-piece : goal.invariant-loop-piece
invariant-loop-piece l = l.pieces.items ≡ l.fn.pieces.items ++ used_pieces (take l.piece-index l.more)
