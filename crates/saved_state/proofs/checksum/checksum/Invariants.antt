use Rattle.std.proofs.Common.{◌≡◌, ◌<◌, drop}
use Rattle.saved_state.specs.Bytes.{sums}
use Rattle.saved_state.proofs.checksum.checksum.Given as goal

abbrev pub invariant-loop-byte : goal.invariant-loop-byte
invariant-loop-byte l = record {
  same : sums l.low l.high (drop l.byte-index l.bytes) ≡ sums 1 0 l.bytes;
  low : l.low < 65521;
  high : l.high < 65521;
}
