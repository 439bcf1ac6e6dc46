use Rattle.dasd_jobs.proofs.opened.load_from.Goals as goal
use Rattle.std.proofs.Common.{refl}

pub returns-in-Ok-clause-read : goal.returns-in-Ok-clause-read
returns-in-Ok-clause-read g c inside = (refl, rw (← c.in-Some.ensures.file, ← c.in-Some.ensures.track) c.in-Ok.ensures.read)
