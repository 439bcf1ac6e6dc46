use Rattle.std.proofs.Common.{◌+◌, None}
use Rattle.ckd_track.specs.Track.{record_in}
use Rattle.dasd_extract.specs.Written.{until_stop, Writes}
use Rattle.dasd_extract.specs.Blocks.{block_written}
use Rattle.dasd_extract.proofs.tracks.write_from.Given as goal

-- the blocks so far are written, and none has ended it
abbrev pub invariant-loop-k : goal.invariant-loop-k
invariant-loop-k g l =
    Writes (until_stop (λ k. block_written l.form l.track (record_in l.view (l.first + k))) l.k) (g.W.Write.contents l.fn.writer)
    (g.W.Write.contents l.writer) None
