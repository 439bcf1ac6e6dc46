-- What a check prints of a volume: its tracks that can't be read.
use Rattle.std.specs.Prelude.{◌≡◌, ℕ, ◌+◌, ◌^◌, ◌<◌, List, [], ◌∷◌, ◌++◌, length, codes, Some, Result, Ok, Err}
use Rattle.std.specs.List.{flat_map, concat}
use Rattle.std.specs.Fmt.{decimal}
use Rattle.ckd_track.specs.declared.geometries.Geometry.{Geometry}
use Rattle.ckd_track.specs.declared.fault.SlotFault.{SlotFault}
use Rattle.ckd_track.specs.Track.{Track, track_of}
use Rattle.dasd_volumes.specs.Lines.{address_text, fault_text, line_feed}
use Rattle.dasd_volumes.specs.Reading.{KnownVolume}
use Rattle.dasd_volumes.specs.Volumes.{ReadTrack, tracks_in, all_tracks}

-- a track that can't be read
pub record Finding : Type 0 where
  pub cylinder : ℕ
  pub head : ℕ
  pub fault : SlotFault

abbrev pub findings_at : (cylinder head : ℕ) → Result Track SlotFault → List Finding
findings_at cylinder head (Ok t) = []
findings_at cylinder head (Err fault) = record { cylinder = cylinder; head = head; fault = fault } ∷ []

abbrev pub findings_in_track : ReadTrack → List Finding
findings_in_track t = findings_at t.track.cylinder t.track.head (track_of t.slot)

-- the tracks of a volume that can't be read, cylinder by cylinder and head by head
abbrev pub findings_in : Geometry → (slots : List (List ℕ)) → List Finding
findings_in g slots = flat_map findings_in_track (tracks_in (all_tracks g) g slots)

abbrev pub finding_line : Finding → List ℕ
finding_line f = concat (address_text f.cylinder f.head ∷ codes " " ∷ fault_text f.fault ∷ line_feed ∷ [])

abbrev pub finding_lines : List Finding → List ℕ
finding_lines findings = flat_map finding_line findings

-- their lines
abbrev pub lines_in : Geometry → (slots : List (List ℕ)) → List ℕ
lines_in g slots = finding_lines (findings_in g slots)

-- the last line of a check: how many findings there are
abbrev pub number_line : (number : ℕ) → List ℕ
number_line number = concat (decimal number ∷ codes " findings" ∷ line_feed ∷ [])

-- what a check prints: a line for each finding, and how many there are
abbrev pub check_text : Geometry → (slots : List (List ℕ)) → List ℕ
check_text g slots = lines_in g slots ++ number_line (length (findings_in g slots))

-- so many tracks of a volume can't be read, if its slots are known
abbrev pub NumberIn : KnownVolume → ℕ → Type 0
NumberIn v n = (slots : List (List ℕ)) → v.slots ≡ Some slots → n ≡ length (findings_in v.geometry slots)

-- a track was counted where it can't be read, if the number fits 32 bits
abbrev pub CountsFinding : (before : ℕ) → ReadTrack → (now : ℕ) → Type 0
CountsFinding before t now = before + length (findings_in_track t) < 2 ^ 32 → now ≡ before + length (findings_in_track t)
