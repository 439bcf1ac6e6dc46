use Rattle.std.proofs.Common.{◌≡◌, drop}
use Rattle.std.specs.List.{list_all}
use Rattle.s360_assembler.specs.Numbers.{is_letter_or_digit}
use Rattle.s360_assembler.proofs.numbers.are_letters_and_digits.Given as goal

-- what is left decides of all
abbrev pub invariant-loop-byte : goal.invariant-loop-byte
invariant-loop-byte l = list_all is_letter_or_digit (drop l.byte-index l.text) ≡ list_all is_letter_or_digit l.text
