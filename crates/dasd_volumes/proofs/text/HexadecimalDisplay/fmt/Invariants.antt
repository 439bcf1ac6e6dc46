use Rattle.std.proofs.Common.{◌*◌, take}
use Rattle.std.specs.Fmt.{HasWritten, IsPlainFormatter}
use Rattle.dasd_volumes.specs.Lines.{bytes_text}
use Rattle.dasd_volumes.proofs.text.HexadecimalDisplay.fmt.Given as goal

-- the pieces so far are written
abbrev pub invariant-loop-i : goal.invariant-loop-i
invariant-loop-i g l =
    IsPlainFormatter l.initial.f → HasWritten g.W.Write.write_str_gives l.initial.f (bytes_text (take (32 * l.i) l.bytes)) l.f
