use Rattle.std.proofs.Common.{◌≡◌, ◌+◌, ◌-◌, length}
use Rattle.volume_contents.specs.Claims.{split_claimed, cylinders_claimed}
use Rattle.volume_contents.proofs.claims.claim_split.Given as goal

-- what is claimed of the cylinders that are left is what is claimed of all, and there is a mark for each track
abbrev pub invariant-loop-k : goal.invariant-loop-k
invariant-loop-k l = record {
  left : split_claimed l.geometry l.extent l.fn.marks
      ≡ cylinders_claimed ((l.extent.last.cylinder + 1 - l.extent.first.cylinder) - l.k) l.geometry l.extent l.k l.marks;
  size : length l.marks ≡ length l.fn.marks;
}
