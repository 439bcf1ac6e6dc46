use Rattle.std.proofs.Common.{◌≡◌, map, take}
use Rattle.record_tracks.specs.Entries.{all_contents}
use Rattle.member_changes.specs.Entries.{contents_in}
use Rattle.member_changes.proofs.entries.with_user_data.Given as goal

-- the entries so far
abbrev pub invariant-loop-entry : goal.invariant-loop-entry
invariant-loop-entry l = all_contents l.entries.items ≡ map (contents_in l.bytes) (take l.entry-index l.placed)
