use Rattle.std.proofs.Common.{take, flat_map}
use Rattle.std.specs.Io.KnownBytes.{Appends}
use Rattle.volume_details.specs.Long.{extent_line}
use Rattle.volume_details.proofs.long.write_extents.Given as goal

-- the lines so far are written
abbrev pub invariant-loop-extent : goal.invariant-loop-extent
invariant-loop-extent g l = Appends (g.W.Write.contents l.fn.writer) (g.W.Write.contents l.writer)
    (flat_map extent_line (take l.extent-index l.extents))
