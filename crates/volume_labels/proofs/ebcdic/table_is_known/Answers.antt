use Rattle.std.proofs.Common.{refl}
use Rattle.volume_labels.specs.Ebcdic.{code_page_037}
use Rattle.volume_labels.proofs.ebcdic.table_is_known.Goals as goal

pub returns : goal.returns
unfolding code_page_037
returns c = refl
