use Rattle.volume_details.specs.Long.{object_text}
use Rattle.volume_details.proofs.long.write_object.Goals as goal

pub returns : goal.returns
unfolding object_text
returns g c =
    rw (c.last_member-last.ensures, c.is_last_volume.ensures, c.protection_member-password.ensures, c.protection_of.ensures)
    at c.writeln.ensures.bytes
