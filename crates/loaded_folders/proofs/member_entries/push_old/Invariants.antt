use Rattle.std.proofs.Common.{◌≡◌, ◌++◌, map, take}
use Rattle.loaded_folders.specs.MemberEntries.{kept_entry}
use Rattle.loaded_folders.specs.MemberParts.{kept}
use Rattle.loaded_folders.proofs.member_entries.push_old.Given as goal

-- the entries so far
abbrev pub invariant-loop-entry : goal.invariant-loop-entry
invariant-loop-entry l = map kept l.entries.items ≡ map kept l.initial.entries.items ++ map kept_entry (take l.entry-index l.old)
