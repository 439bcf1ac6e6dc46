use Rattle.std.proofs.Common.{◌≡◌}
use Rattle.dasd_volumes.specs.Volumes.{of_each}
use Rattle.volume_changes.specs.Runs.{run_from}
use Rattle.volume_changes.proofs.runs.runs_of.Given as goal

-- the runs that begin with the tracks so far
abbrev pub invariant-loop-track : goal.invariant-loop-track
invariant-loop-track l = l.runs.items ≡ of_each (run_from l.geometry l.marks) l.track
