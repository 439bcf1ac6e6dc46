use Rattle.std.proofs.Common.{◌<◌, ◌∙◌, ap, length, arith}
use Rattle.std.proofs.lemmas.Option.{slice_get_within}
use Rattle.std.specs.Prelude.{slice_get}
use Rattle.attached_drives.proofs.Places.{get_set}
use Rattle.s360_channel.proofs.Started.{starts_bad, starts_rejected, starts_immediate, starts_accepted, started_images, armed_images}
use Rattle.s360_channel.proofs.starting.start_program.Goals as goal

pub set_arm-requires : goal.set_arm-requires
set_arm-requires g c = (
  omega arith,
  let e = c.start.ensures in
      let h : c.args.place < length c.start.new.self = slice_get_within c.start.new.self c.args.place _
      (ap (λ us. slice_get us c.args.place) e.becomes ∙ get_set c.args.drives.now c.args.place e.attached _ e.was) in
      h,
)

pub returns-in-Bad-clause-does : goal.returns-in-Bad-clause-does
returns-in-Bad-clause-does g c = λ attached there number rest distinct.
    starts_bad number _ c.args.drives.now c.args.place attached there rest distinct c.caw_word-caw.result c.args.subchannel.now
    c.status_stored.result c.start.new.self _ c.requires.idle c.caw_word-caw.ensures c.in-Bad.ensures c.status_stored.ensures.answer
    c.status_stored.ensures.storage

pub returns-in-Rejected-clause-does : goal.returns-in-Rejected-clause-does
returns-in-Rejected-clause-does g c = λ attached there number rest distinct.
    let k = c.status_stored-in-Rejected in
    starts_rejected number _ c.args.drives.now c.args.place attached there rest distinct c.caw_word-caw.result c.args.subchannel.now
    k.result c.start.new.self _ c.requires.idle c.caw_word-caw.ensures c.in-Rejected.ensures k.ensures.answer k.ensures.storage

pub returns-in-Immediate-clause-does : goal.returns-in-Immediate-clause-does
returns-in-Immediate-clause-does g c = λ attached there number rest distinct.
    let k = c.status_stored-in-Immediate in
    starts_immediate number _ c.args.drives.now c.args.place attached there rest distinct c.caw_word-caw.result c.args.subchannel.now
    k.result c.start.new.self c.set_arm.new.self _ c.in-Immediate.told c.in-Immediate.asked c.arm_after.result c.interruption_told.result
    c.requires.idle c.caw_word-caw.ensures c.in-Immediate.ensures c.set_arm.ensures c.arm_after.ensures c.interruption_told.ensures
    k.ensures.answer k.ensures.storage

pub returns-in-Immediate-clause-images : goal.returns-in-Immediate-clause-images
returns-in-Immediate-clause-images g c =
    armed_images c.start.new.self c.args.place c.arm_after.result c.set_arm.new.self c.set_arm.ensures
    ∙ started_images c.args.drives.now c.args.place _ _ _ c.start.new.self c.start.ensures

pub returns-in-Accepted-clause-does : goal.returns-in-Accepted-clause-does
returns-in-Accepted-clause-does g c = λ attached there number rest distinct.
    starts_accepted number _ c.args.drives.now c.args.place attached there rest distinct c.accepted_stands.ensures
    c.caw_word-caw.result c.start.new.self c.in-Accepted.running c.caw_word-caw.ensures c.in-Accepted.ensures
