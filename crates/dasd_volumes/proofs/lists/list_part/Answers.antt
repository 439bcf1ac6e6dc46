use Rattle.std.proofs.Common.{rules, tests}
use Rattle.counted_io.specs.Streams.{seen_by}
use Rattle.dasd_volumes.proofs.Fronts.{front_then_none}
use Rattle.dasd_volumes.proofs.lists.list_part.Goals as goal

-- the flush failed
pub returns-clause-lines : goal.returns-clause-lines
returns-clause-lines g c =
    λ slots known. front_then_none _ _ (seen_by g.W.Write.contents c.flush_all.new.writer) _
    (search (rules, tests)) c.in-Err-flush_all.ensures.written.0
