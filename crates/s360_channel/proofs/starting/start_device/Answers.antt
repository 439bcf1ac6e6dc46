use Rattle.attached_drives.proofs.Places.{arm_there}
use Rattle.s360_channel.proofs.Started.{armed_images, start_arrived, start_at_rest}
use Rattle.s360_channel.proofs.starting.start_device.Goals as goal

pub returns-in-Arrived-clause-does : goal.returns-in-Arrived-clause-does
returns-in-Arrived-clause-does g c = λ attached there number rest distinct.
    let k = c.status_stored-in-Arrived in
    start_arrived number _ c.args.drives.now c.args.place attached there rest distinct k.result c.args.subchannel.now c.set_arm.new.self _
    c.requires.idle (arm_there c.args.drives.now c.args.place attached _ there c.in-Arrived.ensures) c.set_arm.ensures
    (rw c.busy_device_end.ensures at k.ensures.answer) (rw c.busy_device_end.ensures at k.ensures.storage)

pub returns-in-AtRest-clause-does : goal.returns-in-AtRest-clause-does
returns-in-AtRest-clause-does g c = λ attached there number rest distinct.
    let k = c.start_program in
    start_at_rest number (g.M.MainStorage.holds c.args.storage.now) c.args.drives.now c.args.place attached there rest distinct _
    k.new.subchannel k.new.drives _
    (arm_there c.args.drives.now c.args.place attached _ there c.in-AtRest.ensures) (k.ensures.does attached there number rest distinct)

pub returns-in-Arrived-clause-images : goal.returns-in-Arrived-clause-images
returns-in-Arrived-clause-images g c = armed_images c.args.drives.now c.args.place _ c.set_arm.new.self c.set_arm.ensures
