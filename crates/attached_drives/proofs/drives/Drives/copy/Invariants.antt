use Rattle.std.proofs.Common.{◌≡◌, take}
use Rattle.attached_drives.proofs.drives.Drives.copy.Given as goal

abbrev pub invariant-loop-place : goal.invariant-loop-place
invariant-loop-place g l = l.copies ≡ take l.place l.self
