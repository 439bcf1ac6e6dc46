use Rattle.std.proofs.Common.{◌≡◌, ◌++◌, map, drop}
use Rattle.loaded_folders.specs.Sets.{entries_front}
use Rattle.loaded_folders.proofs.sets.entries_front.Given as goal

-- the entries so far, and those of the other lines
abbrev pub invariant-loop-form : goal.invariant-loop-form
invariant-loop-form l = map (λ e. e.now) l.entries.items ++ entries_front (drop l.form-index l.forms) ≡ entries_front l.forms
