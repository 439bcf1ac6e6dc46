use Rattle.std.proofs.Common.{◌≡◌, take}
use Rattle.std.specs.List.{list_all}
use Rattle.volume_labels.specs.Lines.{is_blank}
use Rattle.volume_labels.proofs.lines.are_blank.Given as goal

-- those so far are blanks
abbrev pub invariant-loop-byte : goal.invariant-loop-byte
invariant-loop-byte l = l.blank ≡ list_all is_blank (take l.byte-index l.bytes)
