-- Fields of labels and control blocks: numbers with the high byte first, addresses, extents and dates.
use Rattle.std.specs.Prelude.{ℕ, ◌+◌, ◌*◌, List, slice_index, slice_range}
use Rattle.volume_labels.specs.declared.fields.TrackAddress.{TrackAddress}
use Rattle.volume_labels.specs.declared.fields.RecordAddress.{RecordAddress}
use Rattle.volume_labels.specs.declared.fields.Extent.{Extent}
use Rattle.volume_labels.specs.declared.fields.Date.{Date}
use Rattle.volume_labels.specs.declared.fields.RelativeAddress.{RelativeAddress}
use Rattle.volume_labels.specs.declared.fields.FreeTracks.{FreeTracks}

-- two bytes from an offset on
abbrev pub number_at : List ℕ → (at : ℕ) → ℕ
number_at bytes at = slice_index bytes at * 256 + slice_index bytes (at + 1)

-- four bytes from an offset on
abbrev pub long_number_at : List ℕ → (at : ℕ) → ℕ
long_number_at bytes at = number_at bytes at * 65536 + number_at bytes (at + 2)

-- cylinder and head, two bytes each (CCHH)
abbrev pub track_address_at : List ℕ → (at : ℕ) → TrackAddress
track_address_at bytes at = record { cylinder = number_at bytes at; head = number_at bytes (at + 2) }

-- a track's address, and a record's number (CCHHR)
abbrev pub record_address_at : List ℕ → (at : ℕ) → RecordAddress
record_address_at bytes at = record { track = track_address_at bytes at; number = slice_index bytes (at + 4) }

-- a track counted from the first of a data set on, and a record's number on it (TTR)
abbrev pub relative_address_at : List ℕ → (at : ℕ) → RelativeAddress
relative_address_at bytes at = record { track = number_at bytes at; number = slice_index bytes (at + 2) }

-- an extent's type, its number, its first track and its last one
abbrev pub extent_at : List ℕ → (at : ℕ) → Extent
extent_at bytes at = record {
  kind = slice_index bytes at;
  number = slice_index bytes (at + 1);
  first = track_address_at bytes (at + 2);
  last = track_address_at bytes (at + 6);
}

-- a year counted from 1900 on, and a day of it, counted from 1 on; both 0 where there is none
abbrev pub date_at : List ℕ → (at : ℕ) → Date
date_at bytes at = record { year = slice_index bytes at; day = number_at bytes (at + 1) }

-- free tracks: the number of the first, track 0 being the volume's first, and how many cylinders and how many tracks more there are
abbrev pub free_tracks_at : List ℕ → (at : ℕ) → FreeTracks
free_tracks_at bytes at = record { first = number_at bytes at; cylinders = number_at bytes (at + 2); tracks = slice_index bytes (at + 4) }
