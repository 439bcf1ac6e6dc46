use Rattle.std.proofs.Common.{◌≡◌, ◌+◌, ◌*◌, ◌++◌, length, take}
use Rattle.dasd_archive.specs.Dump.{spaced_text}
use Rattle.dasd_archive.proofs.rows.put_spaced.Given as goal

-- the bytes so far are spelled
abbrev pub invariant-loop-byte : goal.invariant-loop-byte
invariant-loop-byte l = record {
  text : l.line.items ≡ l.initial.line.items ++ spaced_text (take l.byte-index l.row);
  size : length l.line.items ≡ length l.initial.line.items + 3 * l.byte-index;
}
