use Rattle.std.proofs.Common.{inr}
use Rattle.dasd_jobs.proofs.jobs.list_files.Goals as goal

-- the volume was opened, and its text printed
pub returns-in-Ok-clause-lines : goal.returns-in-Ok-clause-lines
returns-in-Ok-clause-lines g c = let v = c.in_ok-volume.volume in record {
  geometry = v.geometry;
  contents = v.contents;
  opens = c.in_ok-volume.ensures.opens;
  mounts = c.in_ok-volume.ensures.mounts;
  so = c.in-Ok.ensures.lines;
}

pub returns-clause-lines : goal.returns-clause-lines
returns-clause-lines g c = let v = c.in_ok-volume.volume in inr (record {
  geometry = v.geometry;
  contents = v.contents;
  opens = c.in_ok-volume.ensures.opens;
  mounts = c.in_ok-volume.ensures.mounts;
  so = c.in-Err.ensures.lines;
})
