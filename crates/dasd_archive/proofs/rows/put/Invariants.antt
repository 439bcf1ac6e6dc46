use Rattle.std.proofs.Common.{◌≡◌, ◌+◌, ◌++◌, length, take}
use Rattle.dasd_archive.proofs.rows.put.Given as goal

-- the bytes so far are put
abbrev pub invariant-loop-byte : goal.invariant-loop-byte
invariant-loop-byte l = record {
  text : l.line.items ≡ l.initial.line.items ++ take l.byte-index l.bytes;
  size : length l.line.items ≡ length l.initial.line.items + l.byte-index;
}
