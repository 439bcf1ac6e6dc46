use Rattle.std.proofs.Common.{take, flat_map}
use Rattle.std.specs.Io.KnownBytes.{Appends}
use Rattle.dasd_contents.specs.Objects.{block_object}
use Rattle.dasd_contents.proofs.objects.write_sets.Given as goal

-- the objects so far are written
abbrev pub invariant-loop-block : goal.invariant-loop-block
invariant-loop-block g l = Appends (g.W.Write.contents l.fn.writer) (g.W.Write.contents l.writer)
    (flat_map (block_object l.volume.path.now l.volume.geometry l.blocks) (take l.block-index l.blocks))
