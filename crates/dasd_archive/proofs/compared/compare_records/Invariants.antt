use Rattle.std.specs.Io.KnownBytes.{Appends}
use Rattle.ckd_track.specs.Track.{record_in}
use Rattle.dasd_volumes.specs.Volumes.{of_each}
use Rattle.dasd_archive.specs.Compare.{difference_lines, record_differences}
use Rattle.dasd_archive.proofs.compared.compare_records.Given as goal

-- the differences of the records so far are written
abbrev pub invariant-loop-i : goal.invariant-loop-i
invariant-loop-i g l = Appends (g.W.Write.contents l.fn.writer) (g.W.Write.contents l.writer)
    (difference_lines l.lines (of_each (λ i. record_differences i (record_in l.one i) (record_in l.other i)) l.i))
