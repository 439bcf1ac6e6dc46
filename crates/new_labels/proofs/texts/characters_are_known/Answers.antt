use Rattle.std.proofs.Common.{refl}
use Rattle.new_labels.specs.Texts.{name_characters}
use Rattle.new_labels.proofs.texts.characters_are_known.Goals as goal

pub returns : goal.returns
unfolding name_characters
returns c = refl
