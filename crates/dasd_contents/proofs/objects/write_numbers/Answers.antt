use Rattle.dasd_contents.specs.Objects.{number_members}
use Rattle.dasd_contents.proofs.objects.write_numbers.Goals as goal

pub returns : goal.returns
unfolding number_members
returns g c = rw (c.tracks_owned-tracks.ensures, c.tracks_used-used.ensures) at c.write.ensures.bytes
