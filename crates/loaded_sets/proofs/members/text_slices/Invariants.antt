use Rattle.std.proofs.Common.{◌≡◌, map, take}
use Rattle.loaded_sets.proofs.members.text_slices.Given as goal

-- the slices so far
abbrev pub invariant-loop-text : goal.invariant-loop-text
invariant-loop-text l = map (λ f. f.now) l.slices.items ≡ map (λ t. t.items) (take l.text-index l.texts)
