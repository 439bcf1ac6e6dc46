use Rattle.dasd_volumes.proofs.Formats.{identifier_is}
use Rattle.dasd_archive.proofs.dumps.dump_count.Goals as goal

pub returns : goal.returns
returns g c =
    rw (
      identifier_is _ _ c.count_of.ensures.bytes c.count_of.ensures.is_record,
      c.key_of.ensures.bytes,
      c.data_of.ensures.bytes,
    ) at c.writeln.ensures.bytes
