use Rattle.std.proofs.Common.{take}
use Rattle.std.specs.Fmt.{HasWritten, IsPlainFormatter}
use Rattle.std.specs.List.{flat_map}
use Rattle.changed_volumes.specs.Files.{next_run}
use Rattle.changed_volumes.proofs.lines.RunsDisplay.fmt.Given as goal

-- the extents so far are written
abbrev pub invariant-loop-extent : goal.invariant-loop-extent
invariant-loop-extent g l =
    IsPlainFormatter l.initial.f → HasWritten g.W.Write.write_str_gives l.initial.f (flat_map next_run (take l.extent-index l.extent-items))
    l.f
