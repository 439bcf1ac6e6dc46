use Rattle.std.proofs.Common.{◌≡◌}
use Rattle.attached_drives.proofs.Backs.{front}
use Rattle.attached_drives.proofs.drives.Drives.put_back.Given as goal

abbrev pub invariant-loop-place : goal.invariant-loop-place
invariant-loop-place g l = l.self ≡ front l.saved l.place l.fn.self
