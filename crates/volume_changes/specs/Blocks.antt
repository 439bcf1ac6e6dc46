-- A control block in whose place something else stands later.
use Rattle.std.specs.Prelude.{ℕ, ◌==◌, Bool, ◌&&◌, if◌then◌else◌, List, [], ◌++◌, length, drop, slice_index, slice_set, bytes_eq, Option, Some, None}
use Rattle.std.specs.Prelude.{Result, Ok, Err}
use Rattle.std.specs.List.{position_from}
use Rattle.ckd_track.specs.declared.fault.SlotFault.{SlotFault}
use Rattle.ckd_track.specs.declared.geometries.Geometry.{Geometry}
use Rattle.ckd_track.specs.Geometry.{track_at}
use Rattle.ckd_track.specs.Changes.{with_key_data}
use Rattle.ckd_track.specs.Track.{Record, Track, track_of, track_in, slot_of}
use Rattle.volume_contents.specs.declared.blocks.Block.{Block}
use Rattle.volume_contents.specs.Contents.{slot_at}
use Rattle.volume_contents.specs.Runs.{exists_on}
use Rattle.volume_changes.specs.declared.blocks.BlockChange.{BlockChange}

-- a record is that of a control block: it has the block's number, key and data
abbrev pub is_record_of : Block → Record → Bool
is_record_of b r = (slice_index r.id 4 == b.address.number) && (bytes_eq r.key_area b.key && bytes_eq r.data_area b.bytes)

-- where it stands on a track: the first such record behind record 0
abbrev pub place_on : Block → Result Track SlotFault → Option ℕ
place_on b (Err fault) = None
place_on b (Ok t) = position_from (is_record_of b) 1 (drop 1 t.records)

-- a slot whose record there has these bytes as its key and its data; without such a record it stays
abbrev pub slot_with : (slot body : List ℕ) → (place : Option ℕ) → List ℕ
slot_with slot body None = slot
slot_with slot body (Some i) = slot_of (length slot) (with_key_data i body (track_in slot))

abbrev pub changed_slot : BlockChange → (slot : List ℕ) → List ℕ
changed_slot c slot = slot_with slot (c.key ++ c.bytes) (place_on c.block (track_of slot))

-- the slots of a volume, of which that of the block's track is changed so
abbrev pub changed : Geometry → BlockChange → (slots : List (List ℕ)) → List (List ℕ)
changed g c slots =
    let n = track_at g c.block.address.track.cylinder c.block.address.track.head in
    if exists_on g c.block.address.track then slice_set slots n (changed_slot c (slot_at slots n)) else slots
