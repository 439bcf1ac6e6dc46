use Rattle.std.proofs.Common.{◌≡◌, length, drop}
use Rattle.record_tracks.specs.Entries.{all_contents}
use Rattle.member_changes.specs.Confirms.{are_same}
use Rattle.member_changes.proofs.confirms.are_same.Given as goal

-- those so far say the same
abbrev pub invariant-loop-i : goal.invariant-loop-i
invariant-loop-i l = record {
  size : length l.some ≡ length l.others;
  same : are_same (all_contents l.some) (all_contents l.others) ≡ are_same (all_contents (drop l.i l.some)) (all_contents
      (drop l.i l.others));
}
