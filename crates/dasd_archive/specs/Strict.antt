-- What a strict check finds on a volume.
use Rattle.std.specs.Prelude.{◌≡◌, ℕ, ◌+◌, ◌-◌, ◌^◌, min, Bool, false, not, List, [], ◌∷◌, ◌++◌, length, take, drop, slice_index}
use Rattle.std.specs.Prelude.{position, Option, None, Some, Result, Ok, Err, bytes_eq, nat_lt, ◌==◌, if◌then◌else◌}
use Rattle.std.specs.List.{list_any, flat_map}
use Rattle.ckd_track.specs.declared.model.DriveModel.{DriveModel}
use Rattle.ckd_track.specs.declared.geometries.Geometry.{Geometry}
use Rattle.ckd_track.specs.declared.fault.SlotFault.{SlotFault}
use Rattle.ckd_track.specs.Model.{capacity_of}
use Rattle.ckd_track.specs.Track.{Record, Track, track_of, record_in}
use Rattle.ckd_track.specs.Charges.{used_of}
use Rattle.ckd_track.specs.Changes.{end_offset}
use Rattle.ckd_track.specs.NewVolume.{address}
use Rattle.dasd_archive.specs.declared.findings.StrictProblem.{StrictProblem}
use Rattle.dasd_archive.specs.declared.findings.StrictProblem.TheVariants.{ReservedBytes, Unreadable, OtherHomeAddress, Flagged, NoRecord0, OverCapacity}
use Rattle.dasd_archive.specs.declared.findings.StrictProblem.TheVariants.{SameIdentifier, OtherIdentifier, EndOfFile, BytesBehindEnd}
use Rattle.dasd_archive.specs.declared.findings.FindingPlace.{FindingPlace}
use Rattle.dasd_archive.specs.declared.findings.FindingPlace.TheVariants as place
use Rattle.dasd_archive.specs.declared.findings.StrictFinding.{StrictFinding}
use Rattle.dasd_archive.specs.declared.reports.FindingStyle.{FindingStyle}
use Rattle.dasd_archive.specs.declared.reports.Tally.{Tally}
use Rattle.dasd_archive.specs.Reports.{finding_lines, tally_line, tally_of}
use Rattle.dasd_volumes.specs.Volumes.{ReadTrack, tracks_in, all_tracks, of_each}
use Rattle.dasd_volumes.specs.Reading.{KnownVolume}

-- a finding where something is so, and else none
abbrev pub where_so : Bool → FindingPlace → StrictProblem → List StrictFinding
where_so so at problem = if so then record { place = at; problem = problem } ∷ [] else []

-- one of the track's own cylinder and head
abbrev pub is_own : (cylinder head : ℕ) → List ℕ → Bool
is_own cylinder head bytes = bytes_eq bytes (address cylinder head)

-- the home address: a flag byte, and the track's cylinder and head
abbrev pub home_address_findings : (cylinder head : ℕ) → List ℕ → List StrictFinding
home_address_findings cylinder head ha =
    where_so (not (is_own cylinder head (drop 1 ha))) (place.Track cylinder head) (OtherHomeAddress ha)
    ++ where_so (not (slice_index ha 0 == 0)) (place.Track cylinder head) (Flagged ha)

-- the first record's number is 0
abbrev pub begins_with_record_0 : List Record → Bool
begins_with_record_0 [] = false
begins_with_record_0 (r ∷ rs) = slice_index r.id 4 == 0

-- what the records take of the drive's capacity, up to 2 ^ 32 - 1
abbrev pub used_up_to : DriveModel → List Record → ℕ
used_up_to model records = min (used_of model records) (2 ^ 32 - 1)

-- the track as a whole
abbrev pub track_findings : Geometry → (cylinder head : ℕ) → Track → List StrictFinding
track_findings g cylinder head t =
    home_address_findings cylinder head t.home_address
    ++ (where_so (not (begins_with_record_0 t.records)) (place.Track cylinder head) NoRecord0
    ++ where_so (nat_lt (capacity_of g.model) (used_up_to g.model t.records)) (place.Track cylinder head) (OverCapacity (used_up_to g.model t.records)))

-- record i: its identifier stands before it, or is another track's; it has no data
abbrev pub record_findings : (cylinder head : ℕ) → Track → (i : ℕ) → List StrictFinding
record_findings cylinder head t i =
    let r = record_in t i in
    where_so (list_any (λ earlier. bytes_eq earlier.id r.id) (take i t.records)) (place.Track cylinder head) (SameIdentifier i r.id)
    ++ (where_so (not (is_own cylinder head (take 4 r.id))) (place.Track cylinder head) (OtherIdentifier i r.id)
    ++ where_so (length r.data_area == 0) (place.Track cylinder head) (EndOfFile i))

-- the first byte that is not zero
abbrev pub first_set : List ℕ → Option ℕ
first_set bytes = position (λ b. not (b == 0)) bytes

abbrev pub rest_findings : (cylinder head : ℕ) → (from : ℕ) → Option ℕ → List StrictFinding
rest_findings cylinder head from None = []
rest_findings cylinder head from (Some i) = record { place = place.Track cylinder head; problem = BytesBehindEnd (from + i) } ∷ []

-- a track that can be read: as a whole, record by record, and behind its end mark
abbrev pub findings_of : Geometry → (cylinder head : ℕ) → (slot : List ℕ) → Track → List StrictFinding
findings_of g cylinder head slot t =
    track_findings g cylinder head t
    ++ (of_each (record_findings cylinder head t) (length t.records)
    ++ rest_findings cylinder head (end_offset t + 8) (first_set (drop (end_offset t + 8) slot)))

abbrev pub findings_at : Geometry → (cylinder head : ℕ) → (slot : List ℕ) → Result Track SlotFault → List StrictFinding
findings_at g cylinder head slot (Ok t) = findings_of g cylinder head slot t
findings_at g cylinder head slot (Err fault) = record { place = place.Track cylinder head; problem = Unreadable fault } ∷ []

-- the findings of the track in a slot
abbrev pub findings_in_slot : Geometry → (cylinder head : ℕ) → (slot : List ℕ) → List StrictFinding
findings_in_slot g cylinder head slot = findings_at g cylinder head slot (track_of slot)

abbrev pub findings_in_track : ReadTrack → List StrictFinding
findings_in_track t = findings_in_slot t.track.geometry t.track.cylinder t.track.head t.slot

-- the findings of a volume, cylinder by cylinder and head by head
abbrev pub strict_findings : Geometry → (slots : List (List ℕ)) → List StrictFinding
strict_findings g slots = flat_map findings_in_track (tracks_in (all_tracks g) g slots)

-- what a strict check prints of a volume, behind what was found before: its findings, but for notes that are left out, and how many there
-- are of each severity in all
abbrev pub strict_text : FindingStyle → (path : List ℕ) → (earlier : List StrictFinding) → Geometry → (slots : List (List ℕ)) → List ℕ
strict_text style path earlier g slots =
    finding_lines style path (strict_findings g slots) ++ tally_line style.style path (tally_of (earlier ++ strict_findings g slots))

-- this is the tally of earlier findings and of a volume's, if its slots are known
abbrev pub Adds : (earlier : List StrictFinding) → KnownVolume → Tally → Type 0
Adds earlier v tally = (slots : List (List ℕ)) → v.slots ≡ Some slots → tally ≡ tally_of (earlier ++ strict_findings v.geometry slots)

-- Headers: the bytes from 20 on are reserved.

abbrev pub header_findings : (file : ℕ) → Option ℕ → List StrictFinding
header_findings file None = []
header_findings file (Some i) = record { place = place.Header file; problem = ReservedBytes (20 + i) } ∷ []

abbrev pub findings_in_header : (file : ℕ) → (header : List ℕ) → List StrictFinding
findings_in_header file header = header_findings file (first_set (drop 20 header))
