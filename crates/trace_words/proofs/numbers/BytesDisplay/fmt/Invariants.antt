use Rattle.std.proofs.Common.{take}
use Rattle.std.specs.Fmt.{HasWritten, IsPlainFormatter}
use Rattle.counted_io.specs.Text.{bytes_text}
use Rattle.trace_words.proofs.numbers.BytesDisplay.fmt.Given as goal

-- the bytes so far are written
abbrev pub invariant-loop-byte : goal.invariant-loop-byte
invariant-loop-byte g l =
    IsPlainFormatter l.initial.f → HasWritten g.W.Write.write_str_gives l.initial.f (bytes_text (take l.byte-index l.byte-items)) l.f
