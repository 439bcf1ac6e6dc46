-- The addresses with which the user data of an entry begin, by the blocks of its member that they lead to.
use Rattle.std.specs.Prelude.{◌≡◌, ℕ, zero, suc, ◌+◌, ◌*◌, ◌==◌, if◌then◌else◌, bytes_eq, List, [], ◌∷◌, length, drop, slice_index, Option, Some, None}
use Rattle.std.specs.Prelude.{option_map}
use Rattle.std.specs.Global.{Vec}
use Rattle.volume_labels.specs.declared.fields.RelativeAddress.{RelativeAddress}
use Rattle.volume_labels.specs.declared.fields.Extent.{Extent}
use Rattle.volume_labels.specs.Directories.{number_at}
use Rattle.dasd_volumes.specs.Reading.{KnownVolume}
use Rattle.library_contents.specs.declared.contents.ReadNote.{ReadNote}
use Rattle.library_contents.specs.Members.{Library, library_on, blocks_at}

-- how many bytes the first of these blocks takes, with the byte before it, its lengths, its key and its data
abbrev pub block_bytes : List ℕ → ℕ
block_bytes blocks = 4 + (slice_index blocks 1 + number_at blocks 2)

-- what is behind the first of these blocks
abbrev pub behind_block : List ℕ → List ℕ
behind_block blocks = drop (block_bytes blocks) blocks

-- the number of the first block from which on the blocks are these, the first having a number; each step passes bytes
unfoldable pub number_from : (most number : ℕ) → (blocks others : List ℕ) → Option ℕ
number_from zero number blocks others = None
number_from (suc most) number blocks others =
    if bytes_eq blocks others then Some number else number_from most (number + 1) (behind_block blocks) others

-- the number of the block of a member from which on its blocks are these; behind its last there is none
abbrev pub block_number : (member blocks : List ℕ) → Option ℕ
block_number member blocks = if length blocks == 0 then None else number_from (length member) 0 member blocks

-- the blocks from that of a number on
unfoldable pub from_block : (blocks : List ℕ) → (number : ℕ) → List ℕ
from_block blocks zero = blocks
from_block blocks (suc number) = from_block (behind_block blocks) number

-- From the block of this number on the blocks of a member are these.
abbrev pub NumberIsWhereTheyBegin : Type 0
NumberIsWhereTheyBegin =
    (member blocks : List ℕ) (number : ℕ) → block_number member blocks ≡ Some number → from_block member number ≡ blocks

-- a note that leads to these blocks, if there are any that an end of file ends
abbrev pub note_of : (member : List ℕ) → (count : ℕ) → (blocks : Option (List ℕ)) → Option ReadNote
note_of member count None = None
note_of member count (Some blocks) = option_map (λ block. record { block = block; count = count }) (block_number member blocks)

-- the address of a note in user data: its track in two bytes and its record in one
abbrev pub note_address : (user : List ℕ) → (at : ℕ) → RelativeAddress
note_address user at = record { track = number_at user at; number = slice_index user (at + 2) }

-- note k of user data, with the byte behind its address
abbrev pub note_at : Library → (member user : List ℕ) → (k : ℕ) → Option ReadNote
note_at l member user k = note_of member (slice_index user (k * 4 + 3)) (blocks_at l (note_address user (k * 4)))

-- a note, and those behind it, if each leads to a block
abbrev pub and_notes : Option ReadNote → Option (List ReadNote) → Option (List ReadNote)
and_notes None more = None
and_notes (Some note) more = option_map (λ (l : List ReadNote). note ∷ l) more

-- so many notes from one on, if each leads to a block
unfoldable pub notes_from : Library → (member user : List ℕ) → (count k : ℕ) → Option (List ReadNote)
notes_from l member user zero k = Some []
notes_from l member user (suc count) k = and_notes (note_at l member user k) (notes_from l member user count (k + 1))

-- this is a note of user data, if the slots of the volume are known
abbrev pub IsNote : List Extent → KnownVolume → (member user : List ℕ) → (k : ℕ) → Option ReadNote → Type 0
IsNote extents v member user k note = (slots : List (List ℕ)) → v.slots ≡ Some slots
    → note ≡ note_at (library_on extents v.geometry slots) member user k

-- these are the first notes of user data, if the slots of the volume are known
abbrev pub AreNotes : List Extent → KnownVolume → (member user : List ℕ) → (count : ℕ) → Option (Vec ReadNote) → Type 0
AreNotes extents v member user count notes = (slots : List (List ℕ)) → v.slots ≡ Some slots
    → option_map (λ (n : Vec ReadNote). n.items) notes ≡ notes_from (library_on extents v.geometry slots) member user count 0
