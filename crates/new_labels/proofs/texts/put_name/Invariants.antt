use Rattle.std.proofs.Common.{◌≡◌, ◌<◌, ◌≤◌, ℕ, true, take, length, slice_index}
use Rattle.std.specs.List.{list_all}
use Rattle.volume_labels.specs.Ebcdic.{character_of}
use Rattle.new_labels.specs.Texts.{is_name_character}
use Rattle.new_labels.proofs.texts.put_name.Given as goal

abbrev pub invariant-loop-i : goal.invariant-loop-i
invariant-loop-i l = record {
  named : list_all is_name_character (take l.i l.text) ≡ true;
  size : length l.field ≡ length l.fn.field;
  characters : (k : ℕ) → k < l.i → character_of (slice_index l.field k) ≡ slice_index l.text k;
  blanks : (k : ℕ) → l.i ≤ k → k < length l.field → slice_index l.field k ≡ 0x40;
}
