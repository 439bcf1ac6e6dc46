use Rattle.loaded_folders.proofs.old.read_held.Goals as goal

-- the reader has the volume of the image
pub returns-in-Ok-clause-old : goal.returns-in-Ok-clause-old
returns-in-Ok-clause-old c = rw (c.in-Ok.ensures.geometry, c.in-Ok.ensures.slots) at c.read_set.ensures.old

pub returns-in-Ok-clause-fault : goal.returns-in-Ok-clause-fault
returns-in-Ok-clause-fault c = rw (c.in-Ok.ensures.geometry, c.in-Ok.ensures.slots) at c.read_set.ensures.fault
