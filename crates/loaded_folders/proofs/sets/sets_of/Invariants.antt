use Rattle.std.proofs.Common.{◌≡◌, ◌++◌, map, drop}
use Rattle.loaded_folders.specs.Sets.{sets_of}
use Rattle.loaded_folders.specs.Parts.{lines_of}
use Rattle.loaded_folders.proofs.sets.sets_of.Given as goal

-- the data sets so far, and those of the other lines
abbrev pub invariant-loop-index : goal.invariant-loop-index
invariant-loop-index l = map lines_of l.sets.items ++ sets_of (drop l.index l.forms) ≡ sets_of l.forms
