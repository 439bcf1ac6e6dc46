use Rattle.std.proofs.Common.{◌∙◌, sym, arith}
use Rattle.s360_channel.proofs.Started.{armed_images, within, never_lost, interrupt_arrived}
use Rattle.s360_channel.proofs.interrupting.interrupt_device.Goals as goal

pub returns-in_err-place-clause-does : goal.returns-in_err-place-clause-does
returns-in_err-place-clause-does g c =
    λ rest distinct. absurd (never_lost c.in_ok-device.device c.args.drives.now (sym c.lowest_arrived.ensures ∙ c.in_ok-device.was)
    (sym c.place_of.ensures ∙ c.in_err-place.was))

pub set_arm-requires : goal.set_arm-requires
set_arm-requires g c = (
  omega arith,
  within c.in_ok-device.device c.args.drives.now c.in_ok-place.place (sym c.place_of.ensures
      ∙ c.in_ok-place.was),
)

pub returns-clause-does : goal.returns-clause-does
returns-clause-does g c = λ rest distinct.
    interrupt_arrived c.args.number _ c.args.drives.now rest distinct c.in_ok-device.device c.in_ok-place.place
    c.interrupted.result c.set_arm.new.self _
    (sym c.lowest_arrived.ensures ∙ c.in_ok-device.was) (sym c.place_of.ensures ∙ c.in_ok-place.was) c.set_arm.ensures
    (rw c.csw_of_unit-csw.ensures at c.interrupted.ensures.told) (rw c.csw_of_unit-csw.ensures at c.interrupted.ensures.storage)

pub returns-clause-images : goal.returns-clause-images
returns-clause-images g c = armed_images c.args.drives.now c.in_ok-place.place _ c.set_arm.new.self c.set_arm.ensures
