use Rattle.std.proofs.Common.{take, flat_map}
use Rattle.std.specs.Io.KnownBytes.{Appends}
use Rattle.dasd_contents.specs.Lines.{block_line}
use Rattle.dasd_contents.proofs.lines.write_sets.Given as goal

-- the lines so far are written
abbrev pub invariant-loop-block : goal.invariant-loop-block
invariant-loop-block g l =
    Appends (g.W.Write.contents l.fn.writer) (g.W.Write.contents l.writer) (flat_map (block_line l.geometry l.blocks)
    (take l.block-index l.blocks))
