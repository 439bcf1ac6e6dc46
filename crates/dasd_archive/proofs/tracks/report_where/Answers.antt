use Rattle.dasd_archive.proofs.tracks.report_where.Goals as goal

pub returns-then-is_so : goal.returns-then-is_so
returns-then-is_so g c = rw c.if-is_so.true c.report.ensures
