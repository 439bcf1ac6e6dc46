-- The command works, and none of its bytes has passed.
use Rattle.std.proofs.Common.{◌≡◌, [], true}
use Rattle.ckd_drive.specs.Work.{is_working, passed_of}
use Rattle.bench.proofs.commands.find.Given as goal

abbrev pub invariant-loop : goal.invariant-loop
invariant-loop l = (is_working l.drive.work ≡ true) × (passed_of l.drive.work ≡ [])
