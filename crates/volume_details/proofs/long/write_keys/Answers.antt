use Rattle.volume_details.specs.Long.{key_line}
use Rattle.volume_details.proofs.long.write_keys.Goals as goal

pub returns : goal.returns
unfolding key_line
returns g c = rw (c.protection_words-words.ensures) at c.writeln.ensures.bytes
