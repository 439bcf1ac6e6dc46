use Rattle.std.proofs.Common.{[], ◌∷◌}
use Rattle.std.specs.Io.KnownBytes.{Appends}
use Rattle.dasd_volumes.specs.Volumes.{of_each}
use Rattle.dasd_archive.specs.Dump.{row_line}
use Rattle.dasd_archive.proofs.rows.write_rows.Given as goal

-- the lines so far are written
abbrev pub invariant-loop-i : goal.invariant-loop-i
invariant-loop-i g l = Appends (g.W.Write.contents l.fn.writer) (g.W.Write.contents l.writer)
    (of_each (row_line (l.letter ∷ []) l.bytes) l.i)
