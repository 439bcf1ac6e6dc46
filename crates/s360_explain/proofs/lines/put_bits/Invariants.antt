use Rattle.std.proofs.Common.{◌≡◌, ◌+◌, ◌≤◌, ◌++◌, drop, length}
use Rattle.s360_explain.specs.Lines.{lines_of_bits, bit_lines}
use Rattle.s360_explain.proofs.lines.put_bits.Given as goal

-- the lines so far, and those of the bits to come, are those of all bits
abbrev pub invariant-loop-bit : goal.invariant-loop-bit
invariant-loop-bit l = record {
  items : l.lines.items ++ lines_of_bits l.field l.number (drop l.bit-index l.named) ≡ l.initial.lines.items ++ bit_lines l.field l.number;
  size : length l.lines.items ≤ length l.initial.lines.items + l.bit-index;
}
