-- What a dump prints: home addresses and records, their bytes in hexadecimal and in EBCDIC, sixteen to a line.
use Rattle.std.specs.Prelude.{◌≤◌, ◌<◌, ℕ, ◌+◌, ◌-◌, ◌*◌, ◌/◌, min, if◌then◌else◌, List, [], ◌∷◌, ◌++◌, length, slice_range}
use Rattle.std.specs.Prelude.{slice_index, codes, encode_utf8, Result, Ok, Err}
use Rattle.std.specs.List.{concat, flat_map}
use Rattle.std.specs.Fmt.{decimal}
use Rattle.ckd_track.specs.declared.geometries.Geometry.{Geometry}
use Rattle.ckd_track.specs.declared.fault.SlotFault.{SlotFault}
use Rattle.ckd_track.specs.Model.{heads_of}
use Rattle.ckd_track.specs.Track.{Record, Track, track_of}
use Rattle.dasd_volumes.specs.Lines as lines
use Rattle.dasd_volumes.specs.Lines.{hexadecimal, bytes_text, address_text, record_line, line_feed}
use Rattle.dasd_volumes.specs.Listing.{place_text, unreadable_object}
use Rattle.volume_labels.specs.Ebcdic.{shown}
use Rattle.dasd_volumes.specs.declared.forms.Style.{Style}
use Rattle.dasd_volumes.specs.declared.walks.Range.{Range}
use Rattle.dasd_archive.specs.declared.dumps.VolumePart.{VolumePart}
use Rattle.dasd_volumes.specs.declared.walks.Tracks.{Tracks}
use Rattle.dasd_volumes.specs.Volumes.{of_each, holds, ReadTrack, text_in}
use Rattle.dasd_archive.specs.Styles.{in_style}

-- Lines of bytes.

abbrev pub spaced_text : List ℕ → List ℕ
spaced_text bytes = flat_map (λ b. hexadecimal 2 b ++ codes " ") bytes

abbrev pub blanks_text : ℕ → List ℕ
blanks_text n = of_each (λ k. codes "   ") n

abbrev pub shown_text : List ℕ → List ℕ
shown_text bytes = flat_map (λ b. encode_utf8 (shown b)) bytes

-- line i: the offset of its first byte, and sixteen bytes, or as many as are left
abbrev pub row_of : List ℕ → (i : ℕ) → List ℕ
row_of bytes i = slice_range bytes (16 * i) (min (16 * i + 16) (length bytes))

abbrev pub row_line : (letter : List ℕ) → List ℕ → (i : ℕ) → List ℕ
row_line letter bytes i = let row = row_of bytes i in concat (
    codes "    " ∷ letter ∷ codes " " ∷ hexadecimal 6 (16 * i) ∷ codes "  " ∷ spaced_text row ∷ blanks_text (16 - length row) ∷ codes " " ∷ shown_text row
    ∷ line_feed ∷ [])

abbrev pub rows_text : (letter : List ℕ) → List ℕ → List ℕ
rows_text letter bytes = of_each (row_line letter bytes) ((length bytes + 15) / 16)

-- Records and tracks.

-- how one of a record ends
abbrev pub areas_text : (id key body : List ℕ) → List ℕ
areas_text id key body = concat (
    codes ",\"identifier\":\"" ∷ bytes_text id ∷ codes "\",\"key\":\"" ∷ bytes_text key ∷ codes "\",\"data\":\"" ∷ bytes_text body ∷ codes "\"}" ∷ line_feed
    ∷ [])

-- a track that is dumped: how its lines are written, with the path of its volume, and where it is
pub record DumpedTrack : Type 0 where
  pub style : Style
  pub path : List ℕ
  pub cylinder : ℕ
  pub head : ℕ

-- a record as an object
abbrev pub object_text : DumpedTrack → (id key body : List ℕ) → List ℕ
object_text t id key body = place_text t.path t.cylinder t.head ++ areas_text id key body

-- a record: its identifier and lengths, its key and its data
abbrev pub record_dump : DumpedTrack → Record → List ℕ
record_dump t r = in_style t.style (record_line r ++ (rows_text (codes "K") r.key_area ++ rows_text (codes "D") r.data_area))
    (object_text t r.id r.key_area r.data_area)

-- a record whose number is asked for
abbrev pub record_text : DumpedTrack → Range → Record → List ℕ
record_text t numbers r = if holds numbers (slice_index r.id 4) then record_dump t r else []

-- a track: its home address
abbrev pub home_address_line : DumpedTrack → List ℕ → List ℕ
home_address_line t ha = in_style t.style (concat (address_text t.cylinder t.head ∷ codes " HA " ∷ bytes_text ha ∷ line_feed ∷ []))
    (concat (codes "{\"path\":" ∷ t.path ∷ codes ",\"cylinder\":" ∷ decimal t.cylinder ∷ codes ",\"head\":" ∷ decimal t.head
    ∷ codes ",\"home_address\":\"" ∷ bytes_text ha ∷ codes "\"}" ∷ line_feed ∷ []))

-- one that can't be read
abbrev pub unreadable_line : DumpedTrack → SlotFault → List ℕ
unreadable_line t fault = in_style t.style (lines.unreadable_line t.cylinder t.head fault) (unreadable_object t.path t.cylinder t.head fault)

abbrev pub track_dump : DumpedTrack → Range → Result Track SlotFault → List ℕ
track_dump t numbers (Ok track) = home_address_line t track.home_address ++ flat_map (record_text t numbers) track.records
track_dump t numbers (Err fault) = unreadable_line t fault

-- the lines of a track, by its slot
abbrev pub dumped_text : Style → (path : List ℕ) → (numbers : Range) → ReadTrack → List ℕ
dumped_text style path numbers t =
    track_dump (record { style = style; path = path; cylinder = t.track.cylinder; head = t.track.head }) numbers (track_of t.slot)

-- the tracks of a part of a volume
abbrev pub tracks_of_part : VolumePart → Tracks
tracks_of_part part = record { cylinders = part.cylinders; heads = part.heads }

-- what a dump of a part of a volume prints: its tracks, cylinder by cylinder and head by head
abbrev pub dump_text : Style → (path : List ℕ) → VolumePart → Geometry → (slots : List (List ℕ)) → List ℕ
dump_text style path part g slots = text_in (dumped_text style path part.numbers) (tracks_of_part part) g slots

-- a part is of a volume: its first numbers are not behind its last ones, and the tracks exist
pub record IsPartOf (part : VolumePart) (g : Geometry) : Type 0 where
  pub cylinders : part.cylinders.first ≤ part.cylinders.last
  pub on_volume : part.cylinders.last < g.cylinders
  pub heads : part.heads.first ≤ part.heads.last
  pub on_cylinder : part.heads.last < heads_of g.model
