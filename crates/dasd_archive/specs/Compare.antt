-- What a comparison of two volumes of one geometry prints.
use Rattle.std.specs.Prelude.{◌≡◌, ℕ, ◌+◌, min, Bool, true, ◌==◌, nat_le, nat_eq, if◌then◌else◌, List, [], ◌∷◌, ◌++◌, length, drop}
use Rattle.std.specs.Prelude.{codes, Option, None, Some, Result, Ok, Err, bytes_eq}
use Rattle.std.specs.List.{concat, common_prefix_len, flat_map}
use Rattle.std.specs.Fmt.{decimal}
use Rattle.ckd_track.specs.declared.geometries.Geometry.{Geometry}
use Rattle.ckd_track.specs.declared.fault.SlotFault.{SlotFault}
use Rattle.ckd_track.specs.Track.{Record, Track, track_of, record_in}
use Rattle.ckd_track.specs.Changes.{end_offset}
use Rattle.counted_io.specs.Quantities.{quantity_text}
use Rattle.dasd_volumes.specs.Lines.{bytes_text, address_text, fault_text, line_feed}
use Rattle.counted_io.specs.Streams.{Stream}
use Rattle.dasd_volumes.specs.declared.fault.VolumeFault.{VolumeFault}
use Rattle.dasd_volumes.specs.Reading.{KnownVolume}
use Rattle.dasd_volumes.specs.Volumes.{of_each, ReadTrack, slot_at, tracks_in, all_tracks, text_in}
use Rattle.dasd_volumes.specs.Printing.{PrintsBytes}
use Rattle.dasd_volumes.specs.declared.forms.Style.{Style}
use Rattle.dasd_archive.specs.Styles.{in_style}
use Rattle.dasd_archive.specs.declared.compares.Comparison.{Comparison}
use Rattle.dasd_archive.specs.declared.differences.Difference.{Difference}
use Rattle.dasd_archive.specs.declared.differences.Difference.TheVariants.{HomeAddress, Records, Identifier, Key, Contents, BehindEnd, FirstUnreadable}
use Rattle.dasd_archive.specs.declared.differences.Difference.TheVariants.{SecondUnreadable, Unreadable}

-- One difference.

abbrev pub difference_text : Difference → List ℕ
difference_text (HomeAddress one other) = concat (codes "home address " ∷ bytes_text one ∷ codes " and " ∷ bytes_text other ∷ [])
difference_text (Records one other) = concat (codes "records " ∷ decimal one ∷ codes " and " ∷ decimal other ∷ [])
difference_text (Identifier i one other) =
    concat (codes "record " ∷ decimal i ∷ codes " identifier " ∷ bytes_text one ∷ codes " and " ∷ bytes_text other ∷ [])
difference_text (Key i at) = concat (codes "record " ∷ decimal i ∷ codes " key from " ∷ decimal at ∷ codes " on" ∷ [])
difference_text (Contents i at) = concat (codes "record " ∷ decimal i ∷ codes " data from " ∷ decimal at ∷ codes " on" ∷ [])
difference_text (BehindEnd at) = concat (codes "after the end mark from " ∷ decimal at ∷ codes " on" ∷ [])
difference_text (FirstUnreadable fault) = concat (codes "unreadable in the first: " ∷ fault_text fault ∷ [])
difference_text (SecondUnreadable fault) = concat (codes "unreadable in the second: " ∷ fault_text fault ∷ [])
difference_text (Unreadable at) = concat (codes "unreadable in both, bytes from " ∷ decimal at ∷ codes " on" ∷ [])

-- how the lines of a comparison are written: their style, the paths of the two volumes, and whether each difference has a line
pub record ComparisonForm : Type 0 where
  pub style : Style
  pub path : List ℕ
  pub other : List ℕ
  pub lists : Bool

abbrev pub comparison_form : Comparison → ComparisonForm
comparison_form c = record { style = c.style; path = c.path.now; other = c.other.now; lists = c.lists }

-- a track of both volumes, and how its differences are written
pub record ComparedTrack : Type 0 where
  pub form : ComparisonForm
  pub cylinder : ℕ
  pub head : ℕ

-- the line of a difference of a track
abbrev pub difference_line : ComparedTrack → Difference → List ℕ
difference_line t d = in_style t.form.style (concat (address_text t.cylinder t.head ∷ codes " " ∷ difference_text d ∷ line_feed ∷ []))
    (concat (codes "{\"path\":" ∷ t.form.path ∷ codes ",\"other\":" ∷ t.form.other ∷ codes ",\"cylinder\":" ∷ decimal t.cylinder ∷ codes ",\"head\":"
    ∷ decimal t.head ∷ codes ",\"text\":\"" ∷ difference_text d ∷ codes "\"}" ∷ line_feed ∷ []))

-- the lines of several
abbrev pub difference_lines : ComparedTrack → List Difference → List ℕ
difference_lines t ds = flat_map (difference_line t) ds

-- What differs of two tracks.

abbrev pub where_not : Bool → Difference → List Difference
where_not same d = if same then [] else d ∷ []

-- how many bytes from the first on are the same
abbrev pub same_length : List ℕ → List ℕ → ℕ
same_length one other = common_prefix_len nat_eq one other

-- two records: their identifiers, and where their keys and their data begin to differ
abbrev pub record_differences : (i : ℕ) → Record → Record → List Difference
record_differences i one other =
    where_not (bytes_eq one.id other.id) (Identifier i one.id other.id)
    ++ (where_not (bytes_eq one.key_area other.key_area) (Key i (same_length one.key_area other.key_area))
    ++ where_not (bytes_eq one.data_area other.data_area) (Contents i (same_length one.data_area other.data_area)))

-- the records that both tracks have
abbrev pub shared_differences : (one other : Track) → List Difference
shared_differences one other =
    of_each (λ i. record_differences i (record_in one i) (record_in other i)) (min (length one.records) (length other.records))

-- what stands behind two end marks, as far as both go
abbrev pub rest_differences : (one other : List ℕ) → List Difference
rest_differences one other =
    where_not (nat_le (min (length one) (length other)) (same_length one other)) (BehindEnd (same_length one other))

-- two tracks that can be read, and their slots
abbrev pub readable_differences : (slot other_slot : List ℕ) → Track → Track → List Difference
readable_differences slot other_slot one other =
    where_not (bytes_eq one.home_address other.home_address) (HomeAddress one.home_address other.home_address)
    ++ (where_not (length one.records == length other.records) (Records (length one.records) (length other.records))
    ++ (shared_differences one other
    ++ rest_differences (drop (end_offset one + 8) slot) (drop (end_offset other + 8) other_slot)))

abbrev pub differences_of : (slot other_slot : List ℕ) → Result Track SlotFault → Result Track SlotFault → List Difference
differences_of slot other_slot (Ok one) (Ok other) = readable_differences slot other_slot one other
differences_of slot other_slot (Err fault) (Ok other) = FirstUnreadable fault ∷ []
differences_of slot other_slot (Ok one) (Err fault) = SecondUnreadable fault ∷ []
differences_of slot other_slot (Err fault) (Err other) = Unreadable (same_length slot other_slot) ∷ []

-- what differs of the tracks in two slots: nothing where the slots are the same
abbrev pub differences_in : (slot other_slot : List ℕ) → List Difference
differences_in slot other_slot =
    if bytes_eq slot other_slot then [] else differences_of slot other_slot (track_of slot) (track_of other_slot)

-- Volumes.

-- the lines of a track's differences, or none where only tracks are counted
abbrev pub track_lines : ComparedTrack → (slot other_slot : List ℕ) → List ℕ
track_lines t slot other_slot = if t.form.lists then difference_lines t (differences_in slot other_slot) else []

-- one where the slots differ
abbrev pub changed : (slot other_slot : List ℕ) → List Bool
changed slot other_slot = if bytes_eq slot other_slot then [] else true ∷ []

-- a track, and the slots of the volume that it is compared with
abbrev pub lines_beside : ComparisonForm → (other_slots : List (List ℕ)) → ReadTrack → List ℕ
lines_beside form other_slots t =
    track_lines (record { form = form; cylinder = t.track.cylinder; head = t.track.head }) t.slot
    (slot_at t.track.geometry other_slots t.track.cylinder t.track.head)

abbrev pub changed_beside : (other_slots : List (List ℕ)) → ReadTrack → List Bool
changed_beside other_slots t = changed t.slot (slot_at t.track.geometry other_slots t.track.cylinder t.track.head)

-- what differs of two volumes, cylinder by cylinder and head by head
abbrev pub volume_differences : ComparisonForm → Geometry → (slots other_slots : List (List ℕ)) → List ℕ
volume_differences form g slots other_slots = text_in (lines_beside form other_slots) (all_tracks g) g slots

-- one for each track that differs
abbrev pub changed_in : Geometry → (slots other_slots : List (List ℕ)) → List Bool
changed_in g slots other_slots = flat_map (changed_beside other_slots) (tracks_in (all_tracks g) g slots)

-- how many tracks differ
abbrev pub number_line : ComparisonForm → ℕ → List ℕ
number_line form n = in_style form.style (concat (quantity_text n (codes "track differs") (codes "tracks differ") ∷ line_feed ∷ []))
    (concat (codes "{\"path\":" ∷ form.path ∷ codes ",\"other\":" ∷ form.other ∷ codes ",\"tracks_differ\":" ∷ decimal n ∷ codes "}"
    ∷ line_feed ∷ []))

-- what a comparison prints: what differs, and how many tracks do
abbrev pub compare_text : Style → (path other : List ℕ) → (lists : Bool) → Geometry → (slots other_slots : List (List ℕ)) → List ℕ
compare_text style path other lists g slots other_slots =
    let form : ComparisonForm = record { style = style; path = path; other = other; lists = lists } in
    volume_differences form g slots other_slots ++ number_line form (length (changed_in g slots other_slots))

-- this text of two volumes was printed, and with a fault only its first bytes, if the slots of both are known
abbrev pub PrintsBoth : {A : Type 0} → Result A VolumeFault → (text : Geometry → List (List ℕ) → List (List ℕ) → List ℕ) → (one other : KnownVolume)
    → (before after : Stream) → Type 0
PrintsBoth result text one other before after =
    (slots other_slots : List (List ℕ)) → one.slots ≡ Some slots → other.slots ≡ Some other_slots
    → PrintsBytes result (text one.geometry slots other_slots) before after

-- this is how many there are of these of two volumes, if the slots of both are known
abbrev pub NumberOfBoth : (Geometry → List (List ℕ) → List (List ℕ) → List Bool) → (one other : KnownVolume) → ℕ → Type 0
NumberOfBoth of one other n =
    (slots other_slots : List (List ℕ)) → one.slots ≡ Some slots → other.slots ≡ Some other_slots
    → n ≡ length (of one.geometry slots other_slots)

-- the slots of a volume where they are known
abbrev pub known_slots : Option (List (List ℕ)) → List (List ℕ)
known_slots None = []
known_slots (Some slots) = slots
