use Rattle.dasd_archive.proofs.dumps.dump_object.Goals as goal

pub returns : goal.returns
returns g c = rw (c.identifier-identifier.ensures.value, c.key_of.ensures.bytes, c.data_of.ensures.bytes) at c.write_object.ensures
