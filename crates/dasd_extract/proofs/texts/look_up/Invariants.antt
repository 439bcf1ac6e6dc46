use Rattle.std.proofs.Common.{◌≡◌, length, map, take}
use Rattle.volume_labels.specs.Ebcdic.{character_of}
use Rattle.dasd_extract.proofs.texts.look_up.Given as goal

-- the characters so far are there
abbrev pub invariant-loop-i : goal.invariant-loop-i
invariant-loop-i l = record {
  text : take l.i l.characters ≡ map character_of (take l.i l.bytes);
  size : length l.characters ≡ 128;
}
