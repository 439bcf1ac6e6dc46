use Rattle.std.proofs.Common.{◌≡◌}
use Rattle.attached_drives.proofs.Fronts.{front}
use Rattle.attached_drives.proofs.drives.Drives.reset.Given as goal

abbrev pub invariant-loop-place : goal.invariant-loop-place
invariant-loop-place g l = l.self ≡ front l.place l.fn.self
