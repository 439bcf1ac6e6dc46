use Rattle.std.proofs.Common.{◌≡◌, flat_map, map, take, drop}
use Rattle.record_tracks.specs.{Entries.all_contents, MemberEntries.entry_user_data, MemberEntries.entry_contents}
use Rattle.record_tracks.proofs.library_directories.new_entries.Given as goal

-- the entries so far, and the user data of those that are left
abbrev pub invariant-loop-entry : goal.invariant-loop-entry
invariant-loop-entry l = record {
  so_far : all_contents l.all.items ≡ map (entry_contents l.placed.model l.placed.library.now) (take l.entry-index l.entries);
  rest : l.rest ≡ flat_map (entry_user_data l.placed.model l.placed.library.now) (drop l.entry-index l.entries);
}
