use Rattle.std.proofs.Common.{sym, append-nil}
use Rattle.volume_contents.proofs.Added.{each_more, each_all}
use Rattle.volume_contents.proofs.sets.push_pieces.Goals as goal

pub loop-piece-init : goal.loop-piece-init
loop-piece-init c = sym (append-nil c.args.pieces.now.items)

pub loop-piece-preserved : goal.loop-piece-preserved
loop-piece-preserved c = each_more _ _ _ _ c.args.more.now c.loop-piece.piece-index _ c.loop-piece-test.true c.loop-piece.invariant
    c.in_ok-push_piece.ensures

pub returns : goal.returns
returns c = each_all _ _ _ c.args.more.now c.loop-piece.piece-index c.loop-piece-test.false c.loop-piece.invariant
