use Rattle.std.proofs.Common.{◌≡◌, ◌+◌, ◌≤◌, ◌-◌, ◌==◌, drop}
use Rattle.std.specs.List.{position_or_len}
use Rattle.volume_labels.specs.Ebcdic.{code_page_037}
use Rattle.s360_assembler.proofs.constants.ebcdic_of.Given as goal

-- no byte so far has the character
abbrev pub invariant-loop-byte : goal.invariant-loop-byte
invariant-loop-byte l = record {
  inside : l.byte ≤ 256;
  first : l.byte + position_or_len (λ c. c == l.wanted) (drop l.byte code_page_037) ≡ position_or_len (λ c. c == l.wanted) code_page_037;
}

abbrev pub decreases-loop-byte : goal.decreases-loop-byte
decreases-loop-byte l = 256 - l.byte
