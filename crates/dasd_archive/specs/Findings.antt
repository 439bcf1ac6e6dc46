-- What a strict check finds, how grave it is, and the line that is printed of it.
use Rattle.std.specs.Prelude.{ℕ, List, [], ◌∷◌, ◌++◌, codes}
use Rattle.std.specs.List.{concat}
use Rattle.std.specs.Fmt.{decimal}
use Rattle.dasd_archive.specs.declared.findings.Severity.{Severity}
use Rattle.dasd_archive.specs.declared.findings.Severity.TheVariants.{Error, Warning, Note}
use Rattle.dasd_archive.specs.declared.findings.StrictProblem.{StrictProblem}
use Rattle.dasd_archive.specs.declared.findings.StrictProblem.TheVariants.{ReservedBytes, Unreadable, OtherHomeAddress, Flagged, NoRecord0, OverCapacity}
use Rattle.dasd_archive.specs.declared.findings.StrictProblem.TheVariants.{SameIdentifier, OtherIdentifier, EndOfFile, BytesBehindEnd}
use Rattle.dasd_archive.specs.declared.findings.FindingPlace.{FindingPlace}
use Rattle.dasd_archive.specs.declared.findings.FindingPlace.TheVariants as place
use Rattle.dasd_archive.specs.declared.findings.StrictFinding.{StrictFinding}
use Rattle.dasd_volumes.specs.declared.forms.Style.{Style}
use Rattle.dasd_volumes.specs.declared.forms.Style.TheVariants.{Text, Json}
use Rattle.dasd_volumes.specs.Lines.{bytes_text, address_text, fault_text, line_feed}

-- errors are what a reader of the drive trips over; warnings are unusual; notes are legal
abbrev pub severity_of : StrictProblem → Severity
severity_of (ReservedBytes _) = Warning
severity_of (Unreadable _) = Error
severity_of (OtherHomeAddress _) = Error
severity_of (Flagged _) = Warning
severity_of NoRecord0 = Error
severity_of (OverCapacity _) = Error
severity_of (SameIdentifier _ _) = Warning
severity_of (OtherIdentifier _ _) = Note
severity_of (EndOfFile _) = Note
severity_of (BytesBehindEnd _) = Note

abbrev pub severity_text : Severity → List ℕ
severity_text Error = codes "error"
severity_text Warning = codes "warning"
severity_text Note = codes "note"

-- a problem's kind, without the numbers of one
abbrev pub kind_text : StrictProblem → List ℕ
kind_text (ReservedBytes _) = codes "reserved bytes"
kind_text (Unreadable _) = codes "unreadable"
kind_text (OtherHomeAddress _) = codes "other home address"
kind_text (Flagged _) = codes "flagged home address"
kind_text NoRecord0 = codes "no record 0"
kind_text (OverCapacity _) = codes "over capacity"
kind_text (SameIdentifier _ _) = codes "same identifier"
kind_text (OtherIdentifier _ _) = codes "other identifier"
kind_text (EndOfFile _) = codes "end of file"
kind_text (BytesBehindEnd _) = codes "bytes after end"

-- a problem in words
abbrev pub problem_text : StrictProblem → List ℕ
problem_text (ReservedBytes at) = concat (codes "reserved byte at " ∷ decimal at ∷ codes " is not zero" ∷ [])
problem_text (Unreadable fault) = fault_text fault
problem_text (OtherHomeAddress ha) = concat (codes "home address " ∷ bytes_text ha ∷ codes " of another track" ∷ [])
problem_text (Flagged ha) = concat (codes "home address " ∷ bytes_text ha ∷ codes " with flags" ∷ [])
problem_text NoRecord0 = codes "no record 0"
problem_text (OverCapacity used) = concat (codes "records take " ∷ decimal used ∷ codes ", over the capacity" ∷ [])
problem_text (SameIdentifier i id) =
    concat (codes "record " ∷ decimal i ∷ codes " has the identifier " ∷ bytes_text id ∷ codes " of an earlier one" ∷ [])
problem_text (OtherIdentifier i id) =
    concat (codes "record " ∷ decimal i ∷ codes " has the identifier " ∷ bytes_text id ∷ codes " of another track" ∷ [])
problem_text (EndOfFile i) = concat (codes "record " ∷ decimal i ∷ codes " is an end of file" ∷ [])
problem_text (BytesBehindEnd at) = concat (codes "bytes after the end mark from " ∷ decimal at ∷ codes " on" ∷ [])

-- where it is: in the header of a file, or on a track
abbrev pub place_text : FindingPlace → List ℕ
place_text (place.Header file) = codes "header of file " ++ decimal file
place_text (place.Track cylinder head) = address_text cylinder head

abbrev pub place_members : FindingPlace → List ℕ
place_members (place.Header file) = codes "\"file\":" ++ decimal file
place_members (place.Track cylinder head) = concat (codes "\"cylinder\":" ∷ decimal cylinder ∷ codes ",\"head\":" ∷ decimal head ∷ [])

-- the line of a finding, for people or for programs
abbrev pub finding_line : Style → (path : List ℕ) → StrictFinding → List ℕ
finding_line Text path f =
    concat (severity_text (severity_of f.problem) ∷ codes " " ∷ place_text f.place ∷ codes " " ∷ problem_text f.problem ∷ line_feed ∷ [])
finding_line Json path f = concat (
    codes "{\"path\":" ∷ path ∷ codes ",\"severity\":\"" ∷ severity_text (severity_of f.problem) ∷ codes "\"," ∷ place_members f.place
    ∷ codes ",\"kind\":\"" ∷ kind_text f.problem ∷ codes "\",\"text\":\"" ∷ problem_text f.problem ∷ codes "\"}" ∷ line_feed ∷ [])
