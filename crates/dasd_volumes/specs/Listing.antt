-- What a list of a volume or of a part of it prints: the volume, and its tracks with their records.
use Rattle.std.specs.Prelude.{ℕ, ◌-◌, ◌^◌, ◌==◌, min, Bool, true, false, ◌||◌, not, nat_lt, if◌then◌else◌, List, [], ◌∷◌, ◌++◌, length, codes, Result, Ok, Err}
use Rattle.std.specs.List.{concat}
use Rattle.std.specs.Fmt.{decimal}
use Rattle.ckd_track.specs.declared.model.DriveModel.{DriveModel}
use Rattle.ckd_track.specs.declared.geometries.Geometry.{Geometry}
use Rattle.ckd_track.specs.declared.fault.SlotFault.{SlotFault}
use Rattle.ckd_track.specs.Model.{heads_of, model_number_of}
use Rattle.ckd_track.specs.Track.{Record, Track, track_of, record_in}
use Rattle.ckd_track.specs.Charges.{used_of}
use Rattle.dasd_volumes.specs.Lines.{bytes_text, fault_text, line_feed, volume_line, track_lines}
use Rattle.dasd_volumes.specs.declared.forms.Style.{Style}
use Rattle.dasd_volumes.specs.declared.forms.Style.TheVariants.{Text, Json}
use Rattle.dasd_volumes.specs.declared.walks.Range.{Range}
use Rattle.dasd_volumes.specs.declared.walks.Tracks.{Tracks}
use Rattle.dasd_volumes.specs.Volumes.{of_each, ReadTrack, all_heads, all_tracks, text_in}

-- the volume as an object
abbrev pub volume_object : (path : List ℕ) → Geometry → List ℕ
volume_object path g = concat (
    codes "{\"path\":" ∷ path ∷ codes ",\"model\":" ∷ decimal (model_number_of g.model) ∷ codes ",\"cylinders\":" ∷ decimal g.cylinders
    ∷ codes ",\"heads\":" ∷ decimal (heads_of g.model) ∷ codes ",\"slot_size\":" ∷ decimal g.track_size ∷ codes "}" ∷ line_feed ∷ [])

-- the volume: its line, or an object
abbrev pub volume_part : Style → (path : List ℕ) → Geometry → List ℕ
volume_part Text path g = volume_line g
volume_part Json path g = volume_object path g

-- Tracks as objects.

-- how an object of a track begins
abbrev pub place_text : (path : List ℕ) → (cylinder head : ℕ) → List ℕ
place_text path cylinder head = concat (codes "{\"path\":" ∷ path ∷ codes ",\"cylinder\":" ∷ decimal cylinder ∷ codes ",\"head\":" ∷ decimal head ∷ [])

-- a track that can't be read
abbrev pub unreadable_object : (path : List ℕ) → (cylinder head : ℕ) → SlotFault → List ℕ
unreadable_object path cylinder head fault = concat (
    codes "{\"path\":" ∷ path ∷ codes ",\"cylinder\":" ∷ decimal cylinder ∷ codes ",\"head\":" ∷ decimal head ∷ codes ",\"unreadable\":\"" ∷ fault_text fault
    ∷ codes "\"}" ∷ line_feed ∷ [])

abbrev pub record_object : Record → List ℕ
record_object r = concat (
    codes "{\"identifier\":\"" ∷ bytes_text r.id ∷ codes "\",\"key_length\":" ∷ decimal (length r.key_area)
    ∷ codes ",\"data_length\":" ∷ decimal (length r.data_area) ∷ codes "}" ∷ [])

-- what stands between the parts of a list
abbrev pub comma_before : (i : ℕ) → List ℕ
comma_before i = if i == 0 then [] else codes ","

abbrev pub listed_record : Track → (i : ℕ) → List ℕ
listed_record t i = comma_before i ++ record_object (record_in t i)

-- a track's home address, and what its records take of it
abbrev pub whole_text : DriveModel → Track → List ℕ
whole_text model t = concat (
    codes ",\"home_address\":\"" ∷ bytes_text t.home_address ∷ codes "\",\"used\":" ∷ decimal (min (used_of model t.records) (2 ^ 32 - 1))
    ∷ codes ",\"records\":[" ∷ [])

abbrev pub track_object : (path : List ℕ) → DriveModel → (cylinder head : ℕ) → Track → List ℕ
track_object path model cylinder head t =
    place_text path cylinder head ++ (whole_text model t ++ (of_each (listed_record t) (length t.records) ++ (codes "]}" ++ line_feed)))

-- Tracks.

-- the lines of a track, or an object
abbrev pub track_part : Style → (path : List ℕ) → DriveModel → (cylinder head : ℕ) → Result Track SlotFault → List ℕ
track_part Text path model cylinder head seen = track_lines model cylinder head seen
track_part Json path model cylinder head (Ok t) = track_object path model cylinder head t
track_part Json path model cylinder head (Err fault) = unreadable_object path cylinder head fault

-- a track has a record behind its first one, or can't be read
abbrev pub is_used : Result Track SlotFault → Bool
is_used (Ok t) = nat_lt 1 (length t.records)
is_used (Err fault) = true

-- a track where it is asked for: each, or those that are used
abbrev pub listed_part : Style → (path : List ℕ) → (used_only : Bool) → DriveModel → (cylinder head : ℕ) → Result Track SlotFault → List ℕ
listed_part style path used_only model cylinder head seen =
    if not used_only || is_used seen then track_part style path model cylinder head seen else []

abbrev pub listed_text : Style → (path : List ℕ) → (used_only : Bool) → ReadTrack → List ℕ
listed_text style path used_only t =
    listed_part style path used_only t.track.geometry.model t.track.cylinder t.track.head (track_of t.slot)

-- all tracks of some cylinders
abbrev pub tracks_of_cylinders : Range → Geometry → Tracks
tracks_of_cylinders cylinders g = record { cylinders = cylinders; heads = all_heads g }

abbrev pub cylinders_part : Style → (path : List ℕ) → (used_only : Bool) → Range → Geometry → (slots : List (List ℕ)) → List ℕ
cylinders_part style path used_only cylinders g slots = text_in (listed_text style path used_only) (tracks_of_cylinders cylinders g) g slots

-- what a list of some cylinders prints: the volume, and the tracks that are asked for, cylinder by cylinder and head by head
abbrev pub list_text : Style → (path : List ℕ) → (used_only : Bool) → Range → Geometry → (slots : List (List ℕ)) → List ℕ
list_text style path used_only cylinders g slots = volume_part style path g ++ cylinders_part style path used_only cylinders g slots

-- what a list of a whole volume prints: that of all its cylinders, with each of their tracks, in words
abbrev pub volume_text : Geometry → (slots : List (List ℕ)) → List ℕ
volume_text g slots = list_text Text [] false (all_tracks g).cylinders g slots
