use Rattle.std.proofs.Common.{◌∙◌, sym, arith}
use Rattle.s360_channel.proofs.Started.{armed_images, within, test_none, test_in_motion, test_arrived, test_at_rest}
use Rattle.s360_channel.proofs.testing.test_device.Goals as goal

pub returns-in_default-clause-does : goal.returns-in_default-clause-does
returns-in_default-clause-does g c = λ number rest distinct.
    test_none c.args.device number _ c.args.drives.now rest distinct (sym c.place_of.ensures ∙ c.in_default.is)

pub set_arm-requires : goal.set_arm-requires
set_arm-requires g c = (omega arith, within c.args.device c.args.drives.now c.in-Some.place (sym c.in-Some.ensures))

pub returns-in-InMotion-clause-does : goal.returns-in-InMotion-clause-does
returns-in-InMotion-clause-does g c = λ number rest distinct.
    test_in_motion c.args.device number _ c.args.drives.now rest distinct c.in-Some.place (sym c.in-Some.ensures) c.csw_stored.result _
    c.in-InMotion.ensures (rw c.csw_of_unit.ensures at c.csw_stored.ensures.answer) (rw c.csw_of_unit.ensures at
    c.csw_stored.ensures.storage)

pub returns-in-Arrived-clause-does : goal.returns-in-Arrived-clause-does
returns-in-Arrived-clause-does g c = λ number rest distinct.
    let k = c.csw_stored-in-Arrived in
    test_arrived c.args.device number _ c.args.drives.now rest distinct c.in-Some.place (sym c.in-Some.ensures) k.result
    c.set_arm.new.self _ c.in-Arrived.ensures c.set_arm.ensures (rw c.csw_of_unit-in-Arrived.ensures at k.ensures.answer)
    (rw c.csw_of_unit-in-Arrived.ensures at k.ensures.storage)

pub returns-in-AtRest-clause-does : goal.returns-in-AtRest-clause-does
returns-in-AtRest-clause-does g c = λ number rest distinct.
    test_at_rest c.args.device number _ c.args.drives.now rest distinct c.in-Some.place (sym c.in-Some.ensures) c.in-AtRest.ensures

pub returns-in-Arrived-clause-images : goal.returns-in-Arrived-clause-images
returns-in-Arrived-clause-images g c = armed_images c.args.drives.now c.in-Some.place _ c.set_arm.new.self c.set_arm.ensures
