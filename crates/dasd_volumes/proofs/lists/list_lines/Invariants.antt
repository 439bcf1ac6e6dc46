use Rattle.std.proofs.Common.{take, ◌++◌}
use Rattle.std.specs.List.{flat_map}
use Rattle.counted_io.specs.Streams.{seen_by, Takes, NoneFailed}
use Rattle.dasd_volumes.specs.Lines.{track_line, record_line}
use Rattle.dasd_volumes.proofs.lists.list_lines.Given as goal

-- the first line and those of the records so far are written, and no call failed
abbrev pub invariant-loop-i : goal.invariant-loop-i
invariant-loop-i g l = record {
  taken : Takes (seen_by g.W.Write.contents l.fn.writer) (seen_by g.W.Write.contents l.writer)
      (track_line l.fn.track.geometry.model l.fn.track.cylinder l.fn.track.head l.view ++ flat_map record_line (take l.i l.view.records));
  sound : NoneFailed (seen_by g.W.Write.contents l.fn.writer) (seen_by g.W.Write.contents l.writer);
}
