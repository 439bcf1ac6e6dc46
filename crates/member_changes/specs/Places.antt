-- Where the blocks of a directory are, and how they are written.
use Rattle.std.specs.Prelude.{ℕ, ◌+◌, ◌==◌, Bool, ◌&&◌, nat_lt, if◌then◌else◌, List, [], ◌∷◌, length, take, drop, slice_set, Result, Ok, Err}
use Rattle.ckd_track.specs.declared.fault.SlotFault.{SlotFault}
use Rattle.ckd_track.specs.declared.geometries.Geometry.{Geometry}
use Rattle.ckd_track.specs.Geometry.{tracks_of}
use Rattle.ckd_track.specs.Model.{heads_of}
use Rattle.ckd_track.specs.Changes.{with_key_data}
use Rattle.ckd_track.specs.Track.{Record, Track, track_of, track_in, record_in, slot_of}
use Rattle.volume_labels.specs.declared.fields.Extent.{Extent}
use Rattle.volume_labels.specs.declared.addresses.TrackPlace.{TrackPlace}
use Rattle.volume_labels.specs.declared.addresses.TrackPlace.TheVariants as place
use Rattle.volume_labels.specs.Addresses as addresses
use Rattle.dasd_volumes.specs.Volumes.{of_each}
use Rattle.volume_contents.specs.Contents.{slot_at}
use Rattle.member_changes.specs.declared.places.BlockPlace.{BlockPlace}

-- a record is a block of a directory: it has a key of 8 bytes and 256 bytes of data
abbrev pub is_block : Record → Bool
is_block r = (length r.key_area == 8) && (length r.data_area == 256)

abbrev pub place_of : (track number : ℕ) → BlockPlace
place_of track number = record { track = track; number = number }

-- the places of records from one on, up to the first that is no block of a directory
unfoldable pub places_from : (track number : ℕ) → List Record → List BlockPlace
places_from track number [] = []
places_from track number (r ∷ records) =
    if is_block r then place_of track number ∷ places_from track (number + 1) records else []

-- the places of the blocks on a track: of the records after its record 0
abbrev pub places_in : (track : ℕ) → Track → List BlockPlace
places_in track t = places_from track 1 (drop 1 t.records)

abbrev pub places_on : (track : ℕ) → Result Track SlotFault → List BlockPlace
places_on track (Ok t) = places_in track t
places_on track (Err fault) = []

-- the places on the volume's track n
abbrev pub places_at : Geometry → (slots : List (List ℕ)) → TrackPlace → List BlockPlace
places_at g slots (place.Track n) = if nat_lt n (tracks_of g) then places_on n (track_of (slot_at slots n)) else []
places_at g slots place.PastEnd = []
places_at g slots place.BadExtent = []

-- the places on track i of a library, from 0 on
abbrev pub places_of_track : List Extent → Geometry → (slots : List (List ℕ)) → (i : ℕ) → List BlockPlace
places_of_track extents g slots i = places_at g slots (addresses.track_of (heads_of g.model) extents i)

-- the places of the blocks of its directory, which are on the tracks up to the last one
abbrev pub places_up_to : List Extent → Geometry → (slots : List (List ℕ)) → (last : ℕ) → List BlockPlace
places_up_to extents g slots last = of_each (places_of_track extents g slots) (last + 1)

-- a place is on the volume's track n
abbrev pub is_on : (n : ℕ) → BlockPlace → Bool
is_on n p = p.track == n

-- A slot whose record there is a block of a directory gets this key and this data in it. Any other slot stays.
abbrev pub slot_with : (block : List ℕ) → (number : ℕ) → (slot : List ℕ) → List ℕ
slot_with block number slot =
    if is_block (record_in (track_in slot) number) then slot_of (length slot) (with_key_data number block (track_in slot)) else slot

-- the slots of a volume, of which that of a place is changed so
abbrev pub block_written : Geometry → BlockPlace → (block : List ℕ) → (slots : List (List ℕ)) → List (List ℕ)
block_written g p block slots =
    if nat_lt p.track (tracks_of g) then slice_set slots p.track (slot_with block p.number (slot_at slots p.track)) else slots

-- the slots with blocks of 264 bytes, one after another, at these places, as far as there are both
unfoldable pub all_written : Geometry → List BlockPlace → (blocks : List ℕ) → (slots : List (List ℕ)) → List (List ℕ)
all_written g [] blocks slots = slots
all_written g (p ∷ places) blocks slots =
    if nat_lt (length blocks) 264 then slots else all_written g places (drop 264 blocks) (block_written g p (take 264 blocks) slots)
