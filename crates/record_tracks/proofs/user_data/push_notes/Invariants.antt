use Rattle.std.proofs.Common.{◌≡◌, ◌++◌, flat_map, take}
use Rattle.record_tracks.specs.MemberEntries.{note_bytes, block_address}
use Rattle.record_tracks.proofs.user_data.push_notes.Given as goal

-- the notes so far
abbrev pub invariant-loop-note : goal.invariant-loop-note
invariant-loop-note l = l.bytes.items ≡ l.initial.bytes.items
    ++ flat_map (λ n. note_bytes (block_address l.placed.model l.placed.library.now l.entry.member n.block) n.count)
    (take l.note-index l.note-items)
