use Rattle.dasd_contents.proofs.Written.{after}
use Rattle.dasd_contents.proofs.lines.write_volume.Goals as goal

pub returns : goal.returns
returns g c = rw (c.in-Some.is, c.in-Some-table.is, ← c.as_slice-blocks.ensures.value)
    (after _ _ _ _ _ _ c.in_ok-write_label.ensures
    (after _ _ _ _ _ _ c.in_ok-write_heading.ensures (after _ _ _ _ _ _ c.in_ok-write_sets.ensures c.write_free.ensures)))
