use Rattle.std.proofs.Common.{◌≡◌, ◌+◌, drop, map}
use Rattle.set_forms.specs.Parsing.{forms_behind, parsed}
use Rattle.set_forms.proofs.parsing.parse.Given as goal

-- the forms so far and those of the other lines are those of the whole text
abbrev pub invariant-loop-index : goal.invariant-loop-index
invariant-loop-index l = forms_behind l.forms.items (l.index + 1) (map (λ w. w.now) (drop l.index l.line-items)) ≡ parsed l.text
