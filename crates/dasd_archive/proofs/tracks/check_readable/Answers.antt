use Rattle.dasd_archive.proofs.Reported.{then}
use Rattle.dasd_archive.proofs.tracks.check_readable.Goals as goal

pub returns : goal.returns
returns g c =
    then _ _ c.check_rest.result _ _ _ _ _ _ _ _ c.in_ok-check_whole.ensures
    (then _ _ c.check_rest.result _ _ _ _ _ _ _ _ c.in_ok-check_records.ensures (rw c.requires at c.check_rest.ensures))
