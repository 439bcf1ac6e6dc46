use Rattle.dasd_archive.proofs.Reported.{then}
use Rattle.dasd_archive.proofs.tracks.check_home_address.Goals as goal

pub returns : goal.returns
returns g c =
    then _ _ c.report_where-2.result _ _ _ _ _ _ _ _
    (rw (c.found-finding.ensures, c.is_own-is_other.ensures, c.bytes_from.ensures, c.five.ensures, c.ha-home_address.ensures.bytes) at
    c.in_ok-report_where.ensures)
    (rw (c.found-finding-2.ensures, c.five-2.ensures, c.ha-home_address.ensures.bytes) at c.report_where-2.ensures)
