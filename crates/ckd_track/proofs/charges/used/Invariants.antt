-- The charges of the records so far, up to the greatest number.
use Rattle.std.proofs.Common.{◌≡◌, ◌-◌, ◌^◌, min, take}
use Rattle.ckd_track.specs.Charges.{kept_charges}
use Rattle.ckd_track.proofs.charges.used.Given as goal

abbrev pub invariant-loop-i : goal.invariant-loop-i
invariant-loop-i l = l.used ≡ min (kept_charges l.model (take l.i l.view.records)) (2 ^ 32 - 1)
