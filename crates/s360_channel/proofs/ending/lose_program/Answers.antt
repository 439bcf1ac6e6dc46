use Rattle.std.proofs.Common.{ℕ, ◌+◌, ◌*◌, sym, subst, ap, ◌∙◌, arith}
use Rattle.std.proofs.lemmas.Option.{slice_get_within}
use Rattle.std.specs.Prelude.{option_map}
use Rattle.s360_program.specs.Stands.{Stands}
use Rattle.attached_drives.specs.Drives.{AttachedState}
use Rattle.s360_channel.specs.Ends.{LosesProgram}
use Rattle.attached_drives.specs.DriveCalls.{DriveIs}
use Rattle.attached_drives.proofs.Places.{inside}
use Rattle.s360_channel.proofs.ending.lose_program.Goals as goal

pub device-device-requires : goal.device-device-requires
device-device-requires g c = (
  omega arith,
  let d : DriveIs c.in-Working.place (Stands c.in-Working.running) c.args.drives.now = rw (sym c.replace.ensures.value
      ∙ c.in-Working.is) at c.requires in
      slice_get_within c.args.drives.now c.in-Working.place d.attached d.is_there,
)

pub returns-in-Working-clause-lost : goal.returns-in-Working-clause-lost
returns-in-Working-clause-lost g c =
    let cut = c.cut-unsaved in
    subst (λ s. LosesProgram s c.args.number c.args.drives.now cut.new.self c.unsaved_at.result) (sym c.in-Working.is
    ∙ c.replace.ensures.value) (record {
      told = cut.result;
      attached = cut.ensures.attached;
      was = cut.ensures.was;
      cut = cut.ensures;
      tells = c.unsaved_at.ensures ∙ ap (λ n. option_map {U = ℕ × ℕ × ℕ} (λ t. (256 * c.args.number + n, t.0, t.1)) cut.result.2)
          (inside c.device-device.result cut.ensures.attached.device (c.device-device.ensures
          ∙ ap (option_map (λ (u : AttachedState). u.device)) cut.ensures.was));
    })
