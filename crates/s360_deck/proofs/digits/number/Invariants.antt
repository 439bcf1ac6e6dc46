use Rattle.std.proofs.Common.{◌≡◌, ◌<◌, ◌^◌, drop}
use Rattle.s360_deck.specs.Digits.{number_behind}
use Rattle.s360_deck.proofs.digits.number.Given as goal

-- the digits so far and those to come spell what the whole word spells
abbrev pub invariant-loop-byte : goal.invariant-loop-byte
invariant-loop-byte l = record {
  fits : l.value < 16 ^ l.byte-index;
  spelled : number_behind l.value l.base (drop l.byte-index l.word) ≡ number_behind 0 l.base l.word;
}
