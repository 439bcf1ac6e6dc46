use Rattle.std.proofs.Common.{◌≡◌, ◌++◌, map, drop}
use Rattle.std.specs.String.{string_bytes}
use Rattle.loaded_folders.specs.Sets.{member_names}
use Rattle.loaded_folders.proofs.names.push_members.Given as goal

-- the names so far, and those of the other entries
abbrev pub invariant-loop-entry : goal.invariant-loop-entry
invariant-loop-entry l =
    map string_bytes l.names.items ++ member_names l.data_set (map (λ e. e.now) (drop l.entry-index l.entries))
    ≡ map string_bytes l.fn.names.items ++ member_names l.data_set (map (λ e. e.now) l.entries)
