use Rattle.std.proofs.Common.{◌≡◌, ◌<◌, ◌^◌, drop}
use Rattle.std.specs.Str.{all_ascii_digits}
use Rattle.set_forms.specs.Numbers.{digits_behind}
use Rattle.set_forms.proofs.numbers.number.Given as goal

-- the characters so far are digits, and with those to come spell what the whole word spells
abbrev pub invariant-loop-digit : goal.invariant-loop-digit
invariant-loop-digit l = record {
  fits : l.value < 10 ^ l.digit-index;
  all : all_ascii_digits (drop l.digit-index l.word) ≡ all_ascii_digits l.word;
  spelled : digits_behind l.value (drop l.digit-index l.word) ≡ digits_behind 0 l.word;
}
