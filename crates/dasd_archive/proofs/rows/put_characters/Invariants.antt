use Rattle.std.proofs.Common.{◌≡◌, ◌+◌, ◌++◌, length, take}
use Rattle.dasd_archive.specs.Dump.{shown_text}
use Rattle.dasd_archive.proofs.rows.put_characters.Given as goal

-- the characters so far are put
abbrev pub invariant-loop-byte : goal.invariant-loop-byte
invariant-loop-byte l = record {
  text : l.line.items ≡ l.initial.line.items ++ shown_text (take l.byte-index l.row);
  size : length l.line.items ≡ length l.initial.line.items + l.byte-index;
}
