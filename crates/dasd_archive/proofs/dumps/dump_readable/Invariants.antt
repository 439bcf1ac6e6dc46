use Rattle.std.proofs.Common.{take, ◌++◌}
use Rattle.std.specs.List.{flat_map}
use Rattle.std.specs.Io.KnownBytes.{Appends}
use Rattle.dasd_archive.specs.Dump.{home_address_line, record_text}
use Rattle.dasd_archive.proofs.dumps.dump_readable.Given as goal

-- the first line and those of the records so far are written
abbrev pub invariant-loop-i : goal.invariant-loop-i
invariant-loop-i g l = Appends (g.W.Write.contents l.fn.writer) (g.W.Write.contents l.writer)
    (home_address_line l.lines l.track.home_address ++ flat_map (record_text l.lines l.numbers) (take l.i l.track.records))
