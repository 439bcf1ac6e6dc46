use Rattle.std.specs.Io.KnownBytes.{Appends}
use Rattle.dasd_volumes.specs.Volumes.{of_each}
use Rattle.dasd_contents.specs.Objects.{listed_type}
use Rattle.dasd_contents.proofs.objects.write_types.Given as goal

-- the types so far are written
abbrev pub invariant-loop-i : goal.invariant-loop-i
invariant-loop-i g l = Appends (g.W.Write.contents l.fn.writer) (g.W.Write.contents l.writer) (of_each (listed_type l.extents) l.i)
