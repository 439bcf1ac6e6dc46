-- Defective tracks, and the alternates that hold their blocks (component descriptions of the 2841 and the 2314, 'Track Format'): the flag
-- byte of a home address says in bit 6 that its track is defective, and in bit 7 that it is an alternate; record 0 of a defective track
-- names its alternate, by the cylinder and the head in its count area.
use Rattle.std.specs.Prelude.{ℕ, ◌/◌, ◌%◌, ◌==◌, ◌<◌, Bool, false, ◌&&◌, not, nat_lt, if◌then◌else◌, List, [], length, slice_index, slice_index_or, Result, Ok}
use Rattle.std.specs.Prelude.{Err}
use Rattle.ckd_track.specs.declared.geometries.Geometry.{Geometry}
use Rattle.ckd_track.specs.declared.fault.SlotFault.{SlotFault}
use Rattle.ckd_track.specs.Model.{heads_of}
use Rattle.ckd_track.specs.Geometry.{tracks_of, track_at}
use Rattle.ckd_track.specs.Track.{Track, track_of, record_in}
use Rattle.volume_labels.specs.declared.fields.TrackAddress.{TrackAddress}
use Rattle.volume_labels.specs.Fields.{track_address_at}
use Rattle.dasd_extract.specs.declared.alternates.Holder.{Holder}
use Rattle.dasd_extract.specs.declared.alternates.Holder.TheVariants.{Itself, Alternate, Nowhere}
use Rattle.dasd_extract.specs.Blocks.{number_of}

-- the flag byte of a track
abbrev pub flags_of : Track → ℕ
flags_of t = slice_index t.home_address 0

abbrev pub is_defective : Track → Bool
is_defective t = flags_of t / 2 % 2 == 1

-- an alternate that is not defective itself
abbrev pub is_alternate : Track → Bool
is_alternate t = flags_of t % 4 == 1

-- record 0 is there: the first record has this number
abbrev pub has_record_0 : Track → Bool
has_record_0 t = not (length t.records == 0) && (number_of (record_in t 0) == 0)

-- the track that record 0 names
abbrev pub named_by : Track → TrackAddress
named_by t = track_address_at (record_in t 0).id 0

-- it is an alternate, if the volume has it
abbrev pub holder_named : Geometry → TrackAddress → Holder
holder_named g a = if nat_lt a.cylinder g.cylinders && nat_lt a.head (heads_of g.model) then Alternate (track_at g a.cylinder a.head) else Nowhere

abbrev pub holder_on : Geometry → Track → Holder
holder_on g t = if not (is_defective t) then Itself else (if has_record_0 t then holder_named g (named_by t) else Nowhere)

-- where the blocks of a track are: on itself; of a defective one on its alternate, or nowhere
abbrev pub holder_of : Geometry → Result Track SlotFault → Holder
holder_of g (Ok t) = holder_on g t
holder_of g (Err fault) = Itself

-- the alternate is a track of the volume
abbrev pub IsOnVolume : Geometry → Holder → Type 0
IsOnVolume g (Alternate n) = n < tracks_of g
IsOnVolume g Itself = Unit {0}
IsOnVolume g Nowhere = Unit {0}

-- a track that can be read, and is no alternate
abbrev pub is_other : Result Track SlotFault → Bool
is_other (Ok t) = not (is_alternate t)
is_other (Err fault) = false

-- the blocks of a track are read from its alternate: 1 if they are
abbrev pub read_from : (slots : List (List ℕ)) → Holder → ℕ
read_from slots (Alternate n) = if is_other (track_of (slice_index_or slots n [])) then 0 else 1
read_from slots Itself = 0
read_from slots Nowhere = 0
