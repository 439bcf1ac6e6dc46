use Rattle.std.proofs.Common.{◌≡◌, ◌++◌, take}
use Rattle.record_tracks.specs.Entries.{all_contents}
use Rattle.member_changes.proofs.entries.push_all.Given as goal

-- those so far are there
abbrev pub invariant-loop-entry : goal.invariant-loop-entry
invariant-loop-entry l = all_contents l.entries.items ≡ all_contents l.initial.entries.items ++ all_contents (take l.entry-index l.more)
