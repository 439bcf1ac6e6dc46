use Rattle.std.proofs.Common.{arith}
use Rattle.std.proofs.lemmas.Option.{slice_get_within}
use Rattle.attached_drives.proofs.Backs.{is_back, may_be_restored, never_without}
use Rattle.attached_drives.proofs.drives.Drives.put_back_at.Goals as goal

pub device-requires : goal.device-requires
device-requires g c = (omega arith, slice_get_within c.args.self.now c.args.place c.requires.attached c.requires.is_there)

pub unreachable-requires : goal.unreachable-requires
unreachable-requires g c = never_without c.args.saved.now c.args.self.now c.args.place c.device.result c.device.ensures
    c.in-None.ensures c.requires

pub restore-requires : goal.restore-requires
restore-requires g c = (
  omega arith,
  may_be_restored c.args.saved.now c.args.self.now c.args.place c.device.result c.in-Some.drive c.device.ensures c.in-Some.ensures
      c.requires,
)

pub returns : goal.returns
returns g c = is_back c.args.saved.now c.args.self.now c.restore.new.self c.args.place c.device.result c.in-Some.drive
    c.device.ensures c.in-Some.ensures c.restore.ensures
