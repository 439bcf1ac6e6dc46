use Rattle.std.proofs.Common.{take}
use Rattle.std.specs.Fmt.{HasWritten, IsPlainFormatter}
use Rattle.dasd_contents.specs.Words.{text_of}
use Rattle.dasd_contents.proofs.words.TextDisplay.fmt.Given as goal

-- the characters so far are written
abbrev pub invariant-loop-byte : goal.invariant-loop-byte
invariant-loop-byte g l =
    IsPlainFormatter l.initial.f → HasWritten g.W.Write.write_str_gives l.initial.f (text_of l.self.quoted (take l.byte-index l.byte-items))
    l.f
