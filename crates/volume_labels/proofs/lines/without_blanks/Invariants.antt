use Rattle.std.proofs.Common.{◌≡◌, ◌+◌, ◌≤◌, length, take}
use Rattle.std.specs.List.{suffix_len}
use Rattle.volume_labels.specs.Lines.{is_blank}
use Rattle.volume_labels.proofs.lines.without_blanks.Given as goal

-- what is passed is blanks
abbrev pub invariant-loop-kept : goal.invariant-loop-kept
invariant-loop-kept l = (l.kept ≤ length l.bytes) × (l.kept + suffix_len is_blank l.bytes ≡ length l.bytes + suffix_len is_blank
    (take l.kept l.bytes))

abbrev pub decreases-loop-kept : goal.decreases-loop-kept
decreases-loop-kept l = l.kept

-- the same, a byte after another
abbrev pub invariant-loop-kept-2 : goal.invariant-loop-kept-2
invariant-loop-kept-2 l = (l.kept ≤ length l.bytes) × (l.kept + suffix_len is_blank l.bytes ≡ length l.bytes + suffix_len is_blank
    (take l.kept l.bytes))

abbrev pub decreases-loop-kept-2 : goal.decreases-loop-kept-2
decreases-loop-kept-2 l = l.kept
