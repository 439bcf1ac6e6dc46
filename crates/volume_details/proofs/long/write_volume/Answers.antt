use Rattle.volume_details.specs.Long.{volume_line}
use Rattle.volume_details.proofs.long.write_volume.Goals as goal

pub returns : goal.returns
unfolding volume_line
returns g c = rw (c.last_words-words.ensures) at c.writeln.ensures.bytes
