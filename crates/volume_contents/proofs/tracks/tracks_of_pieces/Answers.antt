use Rattle.std.proofs.Common.{rules, tests}
use Rattle.volume_contents.specs.Sets.{number_of_free}
use Rattle.volume_contents.proofs.Sums.{more_sum, whole_sum}
use Rattle.volume_contents.proofs.tracks.tracks_of_pieces.Goals as goal

pub loop-piece-preserved : goal.loop-piece-preserved
loop-piece-preserved c = rw (c.saturating_add-tracks.ensures, c.from.ensures, c.number_of_free.ensures.value)
    (more_sum (number_of_free c.args.geometry) c.args.pieces.now c.loop-piece.piece-index _ _ _ c.loop-piece-test.true
    c.loop-piece.invariant)

pub returns : goal.returns
returns c = whole_sum (number_of_free c.args.geometry) c.args.pieces.now c.loop-piece.piece-index _ _
    (search (rules, tests)) c.loop-piece.invariant
