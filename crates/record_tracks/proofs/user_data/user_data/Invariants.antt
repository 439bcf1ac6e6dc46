use Rattle.std.proofs.Common.{◌≡◌, flat_map, take}
use Rattle.record_tracks.specs.MemberEntries.{entry_user_data}
use Rattle.record_tracks.proofs.user_data.user_data.Given as goal

-- the user data of the entries so far
abbrev pub invariant-loop-entry : goal.invariant-loop-entry
invariant-loop-entry l = l.bytes.items ≡ flat_map (entry_user_data l.placed.model l.placed.library.now) (take l.entry-index l.entries)
