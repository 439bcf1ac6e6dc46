use Rattle.std.proofs.Common.{◌≡◌, ◌++◌, map, flat_map, drop}
use Rattle.std.specs.String.{string_bytes}
use Rattle.loaded_folders.specs.Sets.{file_names}
use Rattle.loaded_folders.specs.Parts.{lines_of}
use Rattle.loaded_folders.proofs.names.file_names.Given as goal

-- the names so far, and those of the other data sets
abbrev pub invariant-loop-set : goal.invariant-loop-set
invariant-loop-set l =
    map string_bytes l.names.items ++ flat_map file_names (map lines_of (drop l.set-index l.sets))
    ≡ flat_map file_names (map lines_of l.sets)
