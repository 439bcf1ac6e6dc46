-- The tracks of a data set as they stand on its volume.
use Rattle.std.specs.Prelude.{◌≡◌, ℕ, nat_lt, if◌then◌else◌, List, [], ◌∷◌, slice_index_or, Option, Some, None, Result, Ok, Err}
use Rattle.ckd_track.specs.declared.geometries.Geometry.{Geometry}
use Rattle.ckd_track.specs.declared.fault.SlotFault.TheVariants.{NoEnd}
use Rattle.ckd_track.specs.Model.{heads_of}
use Rattle.ckd_track.specs.Geometry.{tracks_of}
use Rattle.volume_labels.specs.declared.fields.Extent.{Extent}
use Rattle.volume_labels.specs.declared.addresses.TrackPlace.{TrackPlace}
use Rattle.volume_labels.specs.declared.addresses.TrackPlace.TheVariants as place
use Rattle.volume_labels.specs.Addresses as addresses
use Rattle.counted_io.specs.Streams.{Stream}
use Rattle.dasd_volumes.specs.declared.fault.VolumeFault.{VolumeFault}
use Rattle.dasd_volumes.specs.Reading.{KnownVolume}
use Rattle.dasd_extract.specs.declared.stops.Cause.TheVariants.{EndOfExtents, BadExtent, NoTrack, TooManyTracks, Unreadable}
use Rattle.dasd_extract.specs.declared.stops.Stop.{Stop}
use Rattle.dasd_extract.specs.Written.{Written, stopped, these_bytes, and_then, until_stop, PrintsWritten}

-- the bytes of a slot, all of them; the slot of a track that the volume lacks has none, and ends it
abbrev pub bytes_copied : (track : ℕ) → (slot : List ℕ) → Written
bytes_copied track [] = stopped track (Unreadable (NoEnd 0))
bytes_copied track (byte ∷ bytes) = these_bytes (byte ∷ bytes)

-- the slot of a volume's track
abbrev pub slot_copied : (track : ℕ) → (slots : List (List ℕ)) → (n : ℕ) → Written
slot_copied track slots n = bytes_copied track (slice_index_or slots n [])

-- the track of a data set, by where it is
abbrev pub place_copied : (track : ℕ) → Geometry → (slots : List (List ℕ)) → TrackPlace → Written
place_copied track g slots (place.Track n) = if nat_lt n (tracks_of g) then slot_copied track slots n else stopped track NoTrack
place_copied track g slots place.PastEnd = stopped track EndOfExtents
place_copied track g slots place.BadExtent = stopped track BadExtent

-- track i of a data set
abbrev pub track_copied : List Extent → Geometry → (slots : List (List ℕ)) → (i : ℕ) → Written
track_copied extents g slots i = place_copied i g slots (addresses.track_of (heads_of g.model) extents i)

-- The tracks of a data set, in order, as they stand: all bytes of their slots, up to the end of the extents, or to what ends them before.
abbrev pub tracks_copied : List Extent → Geometry → (slots : List (List ℕ)) → Written
tracks_copied extents g slots = and_then (until_stop (track_copied extents g slots) 65535) (stopped 65535 TooManyTracks)

-- This was printed of a volume; with a fault only the first bytes were, if the slots of the volume are known.
abbrev pub CopiesOf : (Geometry → List (List ℕ) → Written) → KnownVolume → Result (Option Stop) VolumeFault → (before after : Stream) → Type 0
CopiesOf w v result before after =
    (slots : List (List ℕ)) → v.slots ≡ Some slots → PrintsWritten (w v.geometry slots) result before after

-- the slot of a track
abbrev pub CopiesSlot : (track found : ℕ) → KnownVolume → Result (Option Stop) VolumeFault → (before after : Stream) → Type 0
CopiesSlot track found v result before after = CopiesOf (λ g slots. slot_copied track slots found) v result before after

-- a track of a data set
abbrev pub CopiesTrack : List Extent → (i : ℕ) → KnownVolume → Result (Option Stop) VolumeFault → (before after : Stream) → Type 0
CopiesTrack extents i v result before after = CopiesOf (λ g slots. track_copied extents g slots i) v result before after

-- all tracks of a data set, and this is where they end
abbrev pub CopiesTracks : List Extent → KnownVolume → Result Stop VolumeFault → (before after : Stream) → Type 0
CopiesTracks extents v (Ok stop) before after = CopiesOf (tracks_copied extents) v (Ok (Some stop)) before after
CopiesTracks extents v (Err fault) before after = CopiesOf (tracks_copied extents) v (Err fault) before after
