use Rattle.dasd_contents.proofs.Written.{after}
use Rattle.dasd_contents.proofs.objects.write_set.Goals as goal

pub returns : goal.returns
returns g c = rw (← c.as_slice-extents.ensures.value)
    (after _ _ _ _ _ _ c.in_ok-write_path.ensures
    (after _ _ _ _ _ _ c.in_ok-write_names.ensures
    (after _ _ _ _ _ _ c.in_ok-write_numbers.ensures
    (after _ _ _ _ _ _ c.in_ok-write_extents.ensures
    (after _ _ _ _ _ _ c.in_ok-write_all.ensures.bytes (after _ _ _ _ _ _ c.in_ok-write_types.ensures c.write_all-2.ensures.bytes))))))
