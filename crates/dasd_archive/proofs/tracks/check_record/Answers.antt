use Rattle.dasd_archive.proofs.Reported.{then}
use Rattle.dasd_archive.proofs.tracks.check_record.Goals as goal

pub returns : goal.returns
returns g c =
    then _ _ c.report_where-3.result _ _ _ _ _ _ _ _
    (rw (c.found-finding.ensures, c.is_earlier.ensures, c.identifier-identifier.ensures.value) at c.in_ok-report_where.ensures)
    (then _ _ c.report_where-3.result _ _ _ _ _ _ _ _
    (rw (c.found-finding-2.ensures, c.is_own-is_other.ensures, c.identifier-identifier.ensures.value) at c.in_ok-report_where-2.ensures)
    (rw (c.found-finding-3.ensures, c.is_empty.ensures, c.data_of.ensures.bytes) at c.report_where-3.ensures))
