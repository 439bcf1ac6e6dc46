use Rattle.std.proofs.Common.{length}
use Rattle.dasd_extract.proofs.Spelled.{AreLeft}
use Rattle.dasd_extract.proofs.texts.write_text.Given as goal

-- the bytes before the rest are written
abbrev pub invariant-loop-rest : goal.invariant-loop-rest
invariant-loop-rest g l = AreLeft (g.W.Write.contents l.initial.writer) (g.W.Write.contents l.writer) l.bytes l.rest

abbrev pub decreases-loop-rest : goal.decreases-loop-rest
decreases-loop-rest g l = length l.rest
