use Rattle.std.proofs.Common.{◌≡◌, map, take}
use Rattle.loaded_folders.specs.MemberEntries.{said_by}
use Rattle.loaded_folders.specs.MemberParts.{kept}
use Rattle.loaded_folders.proofs.member_entries.member_entries.Given as goal

-- the entries so far
abbrev pub invariant-loop-entry : goal.invariant-loop-entry
invariant-loop-entry l = map said_by l.entries.items ≡ map kept (take l.entry-index l.all)
