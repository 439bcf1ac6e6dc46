use Rattle.std.proofs.Common.{rules}
use Rattle.std.proofs.Output.{has_written_append, has_written_of_eq}
use Rattle.dasd_volumes.proofs.Formats.{one_piece_more}
use Rattle.dasd_volumes.proofs.text.HexadecimalDisplay.fmt.Goals as goal

pub loop-i-preserved : goal.loop-i-preserved
loop-i-preserved g c p =
    has_written_of_eq _ _ _ _ _ (one_piece_more c.args.self.now.0.now c.loop-i.i c.min.result c.min.ensures) (has_written_append _ _ _ _ _ _
    (c.loop-i.invariant p) (search rules))
