use Rattle.dasd_archive.proofs.compared.compare_rests.Goals as goal

pub returns : goal.returns
returns g c =
    rw (c.min-shorter.ensures, c.same_length-same.ensures) at c.write_unless.ensures
