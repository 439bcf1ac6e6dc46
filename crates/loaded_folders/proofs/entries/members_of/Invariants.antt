use Rattle.std.proofs.Common.{◌≡◌, ◌++◌, map, drop}
use Rattle.loaded_folders.specs.Sets.{members_of}
use Rattle.loaded_folders.proofs.entries.members_of.Given as goal

-- the members so far, and those of the other entries
abbrev pub invariant-loop-entry : goal.invariant-loop-entry
invariant-loop-entry l =
    l.members.items ++ members_of (map (λ e. e.now) (drop l.entry-index l.entries)) ≡ members_of (map (λ e. e.now) l.entries)
