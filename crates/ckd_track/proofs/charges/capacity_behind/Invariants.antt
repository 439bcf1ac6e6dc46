-- What the records so far leave of the capacity.
use Rattle.std.proofs.Common.{◌≡◌, ◌+◌, take}
use Rattle.ckd_track.specs.Model.{capacity_of}
use Rattle.ckd_track.specs.Charges.{kept_charges}
use Rattle.ckd_track.proofs.charges.capacity_behind.Given as goal

-- what the records so far take, and what they leave, is the capacity
abbrev pub invariant-loop-i : goal.invariant-loop-i
invariant-loop-i l = l.rest + kept_charges l.model (take l.i l.view.records) ≡ capacity_of l.model
