use Rattle.dasd_contents.proofs.Written.{after}
use Rattle.dasd_contents.proofs.objects.write_known.Goals as goal

pub returns : goal.returns
returns g c = rw (c.in-Some.is, c.in-Some-table.is, ← c.as_slice-blocks.ensures.value, ← c.in_ok-free.ensures)
    (after _ _ _ _ _ _ c.in_ok-write_volume.ensures c.write_sets.ensures)
