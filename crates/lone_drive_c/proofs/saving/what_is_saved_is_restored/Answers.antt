use Rattle.lone_drive_c.proofs.Restored.{begins_between, saved_is_restored}
use Rattle.lone_drive_c.proofs.saving.what_is_saved_is_restored.Goals as goal

pub returns : goal.returns
returns c = record { restored = saved_is_restored; begun = begins_between }
