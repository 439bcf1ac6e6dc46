use Rattle.std.proofs.Common.{◌≡◌, ◌≤◌, take, length, filter}
use Rattle.std.specs.Prelude.{is_some}
use Rattle.dasd_subsystem.proofs.shown.count_of.Given as goal

abbrev pub invariant-loop-drive : goal.invariant-loop-drive
invariant-loop-drive l = (l.count ≡ length (filter is_some (take l.drive-index l.fn.drives))) × (l.count ≤ l.drive-index)
