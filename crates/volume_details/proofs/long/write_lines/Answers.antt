use Rattle.dasd_contents.proofs.Written.{after}
use Rattle.volume_details.proofs.long.write_lines.Goals as goal

pub returns : goal.returns
returns g c =
    after _ _ _ _ _ _ (rw (c.as_slice.ensures.value) at c.in_ok-write_extents.ensures)
    (after _ _ _ _ _ _ (rw (c.is_last_volume.ensures) at c.in_ok-write_volume.ensures)
    (rw (c.protection_of.ensures) at c.write_keys.ensures))
