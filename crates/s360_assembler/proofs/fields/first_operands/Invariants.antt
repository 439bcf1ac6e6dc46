use Rattle.std.proofs.Common.{◌≡◌, ◌+◌, drop, false}
use Rattle.s360_assembler.specs.Fields.{operands_length}
use Rattle.s360_assembler.proofs.fields.first_operands.Given as goal

-- the bytes so far and those of the rest before its first blank are those of the whole text
abbrev pub invariant-loop-byte : goal.invariant-loop-byte
invariant-loop-byte l = record {
  counted : l.at ≡ l.byte-index;
  more : l.at + operands_length l.is_quoted (drop l.byte-index l.text) ≡ operands_length false l.text;
}
