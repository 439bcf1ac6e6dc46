use Rattle.std.proofs.Common.{◌≡◌, ◌==◌, false, take}
use Rattle.std.specs.List.{list_any}
use Rattle.new_labels.specs.Texts.{name_characters}
use Rattle.new_labels.proofs.texts.encoded.Given as goal

abbrev pub invariant-loop-i : goal.invariant-loop-i
invariant-loop-i l = list_any (λ it. it == l.character) (take l.i name_characters) ≡ false
