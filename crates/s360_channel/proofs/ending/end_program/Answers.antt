use Rattle.std.proofs.Common.{◌≡◌, sym, ap, ◌∙◌}
use Rattle.std.specs.Prelude.{option_map, slice_set}
use Rattle.attached_drives.specs.Drives.{AttachedState}
use Rattle.s360_channel.specs.Ends.{arm_told}
use Rattle.s360_channel.specs.declared.subchannel.Subchannel.TheVariants.{Pending}
use Rattle.attached_drives.proofs.Places.{inside}
use Rattle.s360_channel.proofs.ending.end_program.Goals as goal
use Rattle.s360_channel.proofs.ending.end_program.Goals.{then-motion, else-motion}

pub returns : goal.returns
returns g c =
    let h = c.set_arm.ensures in
    let is : c.if-motion.set_arm ≡ arm_told c.args.motion =
    elim c.if-motion.branch [
      | then-motion w ↦ w.set_arm-is ∙ sym (ap arm_told w.if-motion.true)
      | else-motion w ↦ w.set_arm-is
          ∙ sym (ap arm_told w.if-motion.false)
    ] in
    record {
      attached = h.attached;
      was = h.was;
      becomes = h.becomes ∙ ap (λ a. slice_set c.args.drives.now c.args.place (record h.attached { arm = a })) is;
      pends = ap (λ d. Pending d c.args.csw) (inside c.device-device.result h.attached.device (c.device-device.ensures
          ∙ ap (option_map (λ (u : AttachedState). u.device)) h.was));
    }
