use Rattle.counted_io.specs.Streams.{seen_by, Takes, NoneFailed}
use Rattle.dasd_volumes.specs.Volumes.{of_each}
use Rattle.dasd_volumes.specs.Listing.{listed_record}
use Rattle.dasd_volumes.proofs.objects.list_records.Given as goal

-- the records so far are written, and no call failed
abbrev pub invariant-loop-i : goal.invariant-loop-i
invariant-loop-i g l = record {
  taken : Takes (seen_by g.W.Write.contents l.fn.writer) (seen_by g.W.Write.contents l.writer) (of_each (listed_record l.view) l.i);
  sound : NoneFailed (seen_by g.W.Write.contents l.fn.writer) (seen_by g.W.Write.contents l.writer);
}
