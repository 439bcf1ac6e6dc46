use Rattle.std.proofs.Common.{◌∙◌, ap, slice_index}
use Rattle.volume_labels.proofs.ebcdic.character.Goals as goal

pub returns : goal.returns
returns c = c.look_up.ensures ∙ ap (λ t. slice_index t c.args.byte) c.table_is_known.ensures
