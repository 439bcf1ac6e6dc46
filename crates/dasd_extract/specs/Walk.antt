-- The blocks of a data set, over its extents and tracks.
use Rattle.std.specs.Prelude.{◌≡◌, ℕ, zero, suc, ◌+◌, ◌-◌, ◌==◌, nat_lt, if◌then◌else◌, List, [], length, position, slice_index_or, Option, Some, None, Result}
use Rattle.std.specs.Prelude.{Ok, Err}
use Rattle.ckd_track.specs.declared.geometries.Geometry.{Geometry}
use Rattle.ckd_track.specs.declared.fault.SlotFault.{SlotFault}
use Rattle.ckd_track.specs.Model.{heads_of}
use Rattle.ckd_track.specs.Geometry.{tracks_of}
use Rattle.ckd_track.specs.Track.{Track, track_of, record_in}
use Rattle.volume_labels.specs.declared.fields.Extent.{Extent}
use Rattle.volume_labels.specs.declared.fields.RelativeAddress.{RelativeAddress}
use Rattle.volume_labels.specs.declared.addresses.TrackPlace.{TrackPlace}
use Rattle.volume_labels.specs.declared.addresses.TrackPlace.TheVariants as place
use Rattle.volume_labels.specs.Addresses as addresses
use Rattle.counted_io.specs.Streams.{Stream}
use Rattle.dasd_volumes.specs.declared.fault.VolumeFault.{VolumeFault}
use Rattle.dasd_volumes.specs.Reading.{KnownVolume}
use Rattle.dasd_extract.specs.declared.stops.Cause.{Cause}
use Rattle.dasd_extract.specs.declared.stops.Cause.TheVariants.{PastExtents, Outside, BadExtent, NoTrack, NoAlternate, NotAlternate, Unreadable, NoBlock}
use Rattle.dasd_extract.specs.declared.stops.Cause.TheVariants.{TooManyTracks}
use Rattle.dasd_extract.specs.declared.stops.Stop.{Stop}
use Rattle.dasd_extract.specs.declared.blocks.ExtractedForm.{ExtractedForm}
use Rattle.dasd_extract.specs.declared.tracks.Part.{Part}
use Rattle.dasd_extract.specs.declared.alternates.Holder.{Holder}
use Rattle.dasd_extract.specs.declared.alternates.Holder.TheVariants.{Itself, Alternate, Nowhere}
use Rattle.dasd_extract.specs.Written.{Written, stopped, told_behind, and_then, until_stop, Writes, PrintsWritten}
use Rattle.dasd_extract.specs.Alternates.{holder_of, is_other, read_from}
use Rattle.dasd_extract.specs.Blocks.{number_of, block_written}

-- the block of a number; number 0 is what stands before the first block, which is behind record 0
abbrev pub first_block : (number : ℕ) → Track → Option ℕ
first_block number t = if number == 0 then Some 1 else position (λ r. number_of r == number) t.records

-- the blocks of a track from one on
abbrev pub blocks_from : ExtractedForm → (track : ℕ) → Track → (first : ℕ) → Written
blocks_from form track t first = until_stop (λ k. block_written form track (record_in t (first + k))) (length t.records - first)

abbrev pub blocks_or_none : ExtractedForm → (track number : ℕ) → Track → Option ℕ → Written
blocks_or_none form track number t (Some first) = blocks_from form track t first
blocks_or_none form track number t None = stopped track (NoBlock number)

-- the blocks of a slot's track from that of a number on
abbrev pub slot_written : ExtractedForm → (track number : ℕ) → Result Track SlotFault → Written
slot_written form track number (Ok t) = blocks_or_none form track number t (first_block number t)
slot_written form track number (Err fault) = stopped track (Unreadable fault)

-- the track of a slot
abbrev pub track_on : (slots : List (List ℕ)) → (n : ℕ) → Result Track SlotFault
track_on slots n = track_of (slice_index_or slots n [])

-- the blocks of a track that holds those of a defective one; one that is no alternate is not read
abbrev pub alternate_written : ExtractedForm → (track number : ℕ) → Result Track SlotFault → Written
alternate_written form track number held = if is_other held then stopped track NotAlternate else slot_written form track number held

-- the blocks of a track, by where they are
abbrev pub held_written : ExtractedForm → (track number : ℕ) → (slots : List (List ℕ)) → (own : ℕ) → Holder → Written
held_written form track number slots own Itself = slot_written form track number (track_on slots own)
held_written form track number slots own (Alternate n) = alternate_written form track number (track_on slots n)
held_written form track number slots own Nowhere = stopped track NoAlternate

-- the blocks of the volume's track n; those of a defective track are on its alternate
abbrev pub found_written : ExtractedForm → (track number : ℕ) → Geometry → (slots : List (List ℕ)) → (n : ℕ) → Written
found_written form track number g slots n = held_written form track number slots n (holder_of g (track_on slots n))

-- which blocks are written, and how
pub record Wanted : Type 0 where
  pub form : ExtractedForm
  pub extents : List Extent
  pub start : RelativeAddress
  pub tracks : ℕ

abbrev pub wanted : ExtractedForm → List Extent → RelativeAddress → (tracks : ℕ) → Wanted
wanted form extents start tracks = record { form = form; extents = extents; start = start; tracks = tracks }

-- on the first track the blocks begin with that of the start's number, and on each other one with the first
abbrev pub number_on : RelativeAddress → (i : ℕ) → ℕ
number_on start i = if i == 0 then start.number else 0

-- where the extents have no more tracks, or not even the first
abbrev pub past_end : (i : ℕ) → Cause
past_end i = if i == 0 then Outside else PastExtents

abbrev pub place_written : ExtractedForm → (track number i : ℕ) → Geometry → (slots : List (List ℕ)) → TrackPlace → Written
place_written form track number i g slots (place.Track n) =
    if nat_lt n (tracks_of g) then found_written form track number g slots n else stopped track NoTrack
place_written form track number i g slots place.PastEnd = stopped track (past_end i)
place_written form track number i g slots place.BadExtent = stopped track BadExtent

-- what is written of the track that is so many behind the first
abbrev pub track_written : Wanted → Geometry → (slots : List (List ℕ)) → (i : ℕ) → Written
track_written s g slots i =
    place_written s.form (s.start.track + i) (number_on s.start i) i g slots (addresses.track_of (heads_of g.model) s.extents (s.start.track + i))

-- How many of the tracks up to one are read from their alternates.

-- of the volume's track n
abbrev pub found_read_from : (n : ℕ) → Geometry → (slots : List (List ℕ)) → ℕ
found_read_from n g slots = read_from slots (holder_of g (track_on slots n))

abbrev pub place_read_from : Geometry → (slots : List (List ℕ)) → TrackPlace → ℕ
place_read_from g slots (place.Track n) = if nat_lt n (tracks_of g) then found_read_from n g slots else 0
place_read_from g slots place.PastEnd = 0
place_read_from g slots place.BadExtent = 0

-- of the track that is so many behind the first
abbrev pub track_read_from : Wanted → Geometry → (slots : List (List ℕ)) → (i : ℕ) → ℕ
track_read_from s g slots i = place_read_from g slots (addresses.track_of (heads_of g.model) s.extents (s.start.track + i))

-- of the first n tracks
unfoldable pub alternates_read : Wanted → Geometry → (slots : List (List ℕ)) → (n : ℕ) → ℕ
alternates_read s g slots zero = 0
alternates_read s g slots (suc n) = alternates_read s g slots n + track_read_from s g slots n

-- what is written of a track, and how many alternates were read up to it
abbrev pub track_told : Wanted → Geometry → (slots : List (List ℕ)) → (i : ℕ) → Written
track_told s g slots i = told_behind (alternates_read s g slots (i + 1)) (track_written s g slots i)

-- where so many tracks were read as are allowed
abbrev pub too_many : Wanted → Geometry → (slots : List (List ℕ)) → Written
too_many s g slots = told_behind (alternates_read s g slots s.tracks) (stopped (s.start.track + s.tracks) TooManyTracks)

-- What is written of a data set or of a member from its start on: track after track over the extents, and block after block, up to
-- the first end of file, or to what ends it before. The end tells how many tracks were read from their alternates.
abbrev pub source_written : Wanted → Geometry → (slots : List (List ℕ)) → Written
source_written s g slots = and_then (until_stop (track_told s g slots) s.tracks) (too_many s g slots)

-- from before to now the blocks of a source were written, and this is where they end, if the slots of the volume are known
abbrev pub Extracts : Wanted → KnownVolume → (before now : Option (List ℕ)) → Stop → Type 0
Extracts s v before now stop =
    (slots : List (List ℕ)) → v.slots ≡ Some slots → Writes (source_written s v.geometry slots) before now (Some stop)

-- The blocks of a source were printed, and this is where they end; with a fault only their first bytes were, if the slots of the volume
-- are known.
abbrev pub PrintsSource : Wanted → KnownVolume → Result Stop VolumeFault → (before after : Stream) → Type 0
PrintsSource s v (Ok stop) before after =
    (slots : List (List ℕ)) → v.slots ≡ Some slots → PrintsWritten (source_written s v.geometry slots) (Ok (Some stop)) before after
PrintsSource s v (Err fault) before after =
    (slots : List (List ℕ)) → v.slots ≡ Some slots → PrintsWritten (source_written s v.geometry slots) (Err fault) before after

-- the same of one track
abbrev pub PrintsTrack : Wanted → (i : ℕ) → KnownVolume → Result (Option Stop) VolumeFault → (before after : Stream) → Type 0
PrintsTrack s i v result before after =
    (slots : List (List ℕ)) → v.slots ≡ Some slots → PrintsWritten (track_written s v.geometry slots i) result before after

-- the same of the slot of a track on the volume
abbrev pub PrintsSlot : Part → (found : ℕ) → KnownVolume → Result (Option Stop) VolumeFault → (before after : Stream) → Type 0
PrintsSlot p found v result before after =
    (slots : List (List ℕ)) → v.slots ≡ Some slots
    → PrintsWritten (found_written p.form p.track p.number v.geometry slots found) result before after

-- the same of a track that holds the blocks of a defective one
abbrev pub PrintsAlternate : Part → (held : ℕ) → KnownVolume → Result (Option Stop) VolumeFault → (before after : Stream) → Type 0
PrintsAlternate p held v result before after =
    (slots : List (List ℕ)) → v.slots ≡ Some slots → PrintsWritten (alternate_written p.form p.track p.number (track_on slots held)) result before after

-- From before to now so many alternates more were read, if the slots of the volume are known.
abbrev pub Reads : KnownVolume → (more : Geometry → List (List ℕ) → ℕ) → (before now : ℕ) → Type 0
Reads v more before now = (slots : List (List ℕ)) → v.slots ≡ Some slots → now ≡ before + more v.geometry slots
