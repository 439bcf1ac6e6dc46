use Rattle.dasd_archive.proofs.Reported.{then}
use Rattle.dasd_archive.proofs.tracks.check_whole.Goals as goal

pub returns : goal.returns
returns g c =
    then _ _ c.report_where-2.result _ _ _ _ _ _ _ _ c.in_ok-check_home_address.ensures
    (then _ _ c.report_where-2.result _ _ _ _ _ _ _ _
    (rw (c.found-finding.ensures, c.has_record_0.ensures) at c.in_ok-report_where.ensures)
    (rw (c.found-finding-2.ensures, c.used-used.ensures, c.capacity.ensures) at c.report_where-2.ensures))
