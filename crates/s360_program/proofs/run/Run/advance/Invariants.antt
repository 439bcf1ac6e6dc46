use Rattle.std.proofs.Common.{◌≡◌, ◌≤◌, ◌-◌, ◌*◌}
use Rattle.ckd_command.specs.Drive.{drive_of}
use Rattle.s360_laws.specs.Scripts.{units}
use Rattle.s360_laws.specs.Units.{walk, StandsIn}
use Rattle.s360_laws.specs.Unsaved.{GainsNoCheck}
use Rattle.s360_program.specs.Advances.{CallsAtMost, NeedNoStore}
use Rattle.s360_storage.specs.Kept.{KeepsStorage}
use Rattle.s360_program.specs.Stands.{phase_in}
use Rattle.s360_program.specs.Steps.{run_of, Fits}
use Rattle.s360_program.proofs.run.Run.advance.Given as goal

abbrev pub invariant-loop-left : goal.invariant-loop-left
invariant-loop-left g l = record {
  within : l.left ≤ l.units;
  failures : l.drive.image.failures ≡ l.fn.drive.image.failures;
  key : l.self.key ≡ l.fn.self.key;
  fits : Fits l.self l.drive;
  no_check : GainsNoCheck (drive_of l.fn.drive.state) (drive_of l.drive.state);
  storage : KeepsStorage (g.M.MainStorage.holds l.fn.storage) (g.M.MainStorage.holds l.storage);
  place : g.M.MainStorage.place l.storage ≡ g.M.MainStorage.place l.fn.storage;
  calls : CallsAtMost (2 * (l.units - l.left)) l.fn.drive l.drive;
  walked : walk (units (l.units - l.left)) l.fn.self.key (phase_in (run_of l.fn.self) (g.M.MainStorage.holds l.fn.storage) l.fn.drive)
      ≡ StandsIn (phase_in (run_of l.self) (g.M.MainStorage.holds l.storage) l.drive);
  quiet : NeedNoStore l.fn.self.key (phase_in (run_of l.fn.self) (g.M.MainStorage.holds l.fn.storage) l.fn.drive) (l.units - l.left)
      → l.drive.image ≡ l.fn.drive.image;
}

abbrev pub decreases-loop-left : goal.decreases-loop-left
decreases-loop-left g l = l.left
