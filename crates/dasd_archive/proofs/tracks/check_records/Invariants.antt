use Rattle.dasd_volumes.specs.Volumes.{of_each}
use Rattle.dasd_archive.specs.Reports.{Reports}
use Rattle.dasd_archive.specs.Strict.{record_findings}
use Rattle.dasd_archive.proofs.tracks.check_records.Given as goal

-- what is found of the records so far is reported
abbrev pub invariant-loop-i : goal.invariant-loop-i
invariant-loop-i g l = Reports l.track.form.style l.track.form.path.now (g.W.Write.contents l.fn.writer)
    (g.W.Write.contents l.writer) l.fn.tally l.tally
    (of_each (record_findings l.track.place.cylinder l.track.place.head l.view) l.i)
