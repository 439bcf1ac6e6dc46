use Rattle.std.proofs.Common.{◌∙◌, sym}
use Rattle.std.proofs.lemmas.List.{length-take-le}
use Rattle.lone_drive_c.proofs.saving.write.Goals as goal

pub copy_from_slice-requires : goal.copy_from_slice-requires
copy_from_slice-requires c = length-take-le 15 c.args.into.now c.if-into-lt-SAVED.false ∙ sym c.saved_bytes.ensures.len
