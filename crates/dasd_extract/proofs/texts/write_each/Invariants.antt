use Rattle.std.proofs.Common.{◌≡◌, ◌*◌, ◌≤◌, length, take}
use Rattle.dasd_extract.specs.Blocks.{text_of}
use Rattle.dasd_extract.proofs.texts.write_each.Given as goal

-- the characters so far are made
abbrev pub invariant-loop-byte : goal.invariant-loop-byte
invariant-loop-byte g l = record {
  text : l.text.items ≡ text_of (take l.byte-index l.bytes);
  size : length l.text.items ≤ 3 * l.byte-index;
}
