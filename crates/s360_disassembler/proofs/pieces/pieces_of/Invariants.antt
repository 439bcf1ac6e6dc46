use Rattle.std.proofs.Common.{length}
use Rattle.s360_disassembler.proofs.pieces.pieces_of.Given as goal

abbrev pub decreases-loop-pieces : goal.decreases-loop-pieces
decreases-loop-pieces l = length l.pieces.rest.now
