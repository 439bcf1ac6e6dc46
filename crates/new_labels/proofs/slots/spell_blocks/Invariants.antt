use Rattle.std.proofs.Common.{◌≡◌, ◌+◌, ◌*◌, length}
use Rattle.new_labels.specs.Tracks.{filled, table_front}
use Rattle.new_labels.proofs.slots.spell_blocks.Given as goal

abbrev pub invariant-loop-number : goal.invariant-loop-number
invariant-loop-number l = record {
  place : l.at ≡ 21 + 148 * l.number;
  size : length l.slot ≡ length l.fn.slot;
  front : length (table_front l.geometry l.label l.track l.number) ≡ l.at;
  written : l.slot ≡ filled (length l.fn.slot) (table_front l.geometry l.label l.track l.number);
}
