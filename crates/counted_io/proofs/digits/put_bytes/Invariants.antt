use Rattle.std.proofs.Common.{◌≡◌, ◌+◌, ◌*◌, ◌≤◌, ◌++◌, length, take}
use Rattle.counted_io.specs.Text.{bytes_text}
use Rattle.counted_io.proofs.digits.put_bytes.Given as goal

-- the bytes so far are spelled
abbrev pub invariant-loop-byte : goal.invariant-loop-byte
invariant-loop-byte g l = record {
  text : l.line.bytes ≡ l.initial.line.bytes ++ bytes_text (take l.byte-index l.bytes);
  size : length l.line.bytes ≤ length l.initial.line.bytes + 2 * l.byte-index;
}
