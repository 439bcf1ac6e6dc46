use Rattle.dasd_files.specs.Tracks.{AreKept}
use Rattle.dasd_files.proofs.tracks.next_changed.Given as goal

-- the tracks that were looked at hold what they held
abbrev pub invariant-loop-track : goal.invariant-loop-track
invariant-loop-track l = AreKept l.fn.file l.fn.size l.fn.since l.fn.from l.track
