use Rattle.std.proofs.Common.{◌∙◌, sym, ap, length}
use Rattle.std.proofs.lemmas.List.{length-take-le}
use Rattle.ckd_image.proofs.new_volume.spell_new_track.Goals as goal

pub copy_from_slice-requires : goal.copy_from_slice-requires
copy_from_slice-requires c = length-take-le 29 c.args.slot.now c.requires ∙ sym (ap length c.new_spelling.ensures)
