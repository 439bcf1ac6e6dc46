use Rattle.changed_libraries.proofs.directories.read_directory.Goals as goal

-- the reader has the volume of the image
pub returns-in-Ok-clause-read : goal.returns-in-Ok-clause-read
returns-in-Ok-clause-read c = rw (c.in-Ok.ensures.geometry, c.in-Ok.ensures.slots) at c.read_of.ensures.read

pub returns-in-Ok-clause-refused : goal.returns-in-Ok-clause-refused
returns-in-Ok-clause-refused c = rw (c.in-Ok.ensures.geometry, c.in-Ok.ensures.slots) at c.read_of.ensures.refused
