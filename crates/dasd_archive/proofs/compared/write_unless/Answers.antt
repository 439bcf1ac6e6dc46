use Rattle.dasd_archive.proofs.compared.write_unless.Goals as goal

pub returns-else-is_same : goal.returns-else-is_same
returns-else-is_same g c = rw c.if-is_same.false c.write_difference.ensures
