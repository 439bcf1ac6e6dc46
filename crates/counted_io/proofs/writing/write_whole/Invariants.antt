use Rattle.std.proofs.Common.{length}
use Rattle.counted_io.specs.Streams.{seen_by, NoneFailed}
use Rattle.counted_io.proofs.Written.{AreLeft}
use Rattle.counted_io.proofs.writing.write_whole.Given as goal

-- the bytes before the rest are written, and no call failed
abbrev pub invariant-loop-rest : goal.invariant-loop-rest
invariant-loop-rest g l = record {
  left : AreLeft (seen_by g.W.Write.contents l.initial.writer) (seen_by g.W.Write.contents l.writer) l.bytes l.rest;
  failures : NoneFailed (seen_by g.W.Write.contents l.initial.writer) (seen_by g.W.Write.contents l.writer);
}

abbrev pub decreases-loop-rest : goal.decreases-loop-rest
decreases-loop-rest g l = length l.rest
