use Rattle.std.proofs.Common.{◌≡◌, ◌≤◌, ◌++◌, drop, length, option_map, false}
use Rattle.s360_assembler.specs.Constants.{ebcdic_text}
use Rattle.s360_assembler.proofs.constants.ebcdic_text.Given as goal

-- the bytes so far and those of the rest are those of the whole text
abbrev pub invariant-loop-character : goal.invariant-loop-character
invariant-loop-character l = record {
  spelled : option_map (λ more. l.bytes.items ++ more) (ebcdic_text l.half (drop l.character-index l.text)) ≡ ebcdic_text false l.text;
  size : length l.bytes.items ≤ l.character-index;
}
