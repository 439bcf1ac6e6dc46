-- What `dasd check --contents` prints: what is wrong with what a volume holds, and how many findings there are.
use Rattle.std.specs.Prelude.{◌≡◌, ℕ, ◌+◌, nat_lt, Bool, List, [], ◌∷◌, ◌++◌, length, codes, Option, Some, None, option_map}
use Rattle.std.specs.List.{concat, flat_map}
use Rattle.std.specs.Fmt.{decimal}
use Rattle.counted_io.specs.Quantities.{quantity_text}
use Rattle.ckd_track.specs.declared.geometries.Geometry.{Geometry}
use Rattle.volume_labels.specs.Names.{safe_name_of}
use Rattle.dasd_volumes.specs.Lines.{line_feed}
use Rattle.dasd_volumes.specs.Reading.{KnownVolume}
use Rattle.volume_contents.specs.declared.findings.Finding.{Finding}
use Rattle.volume_contents.specs.Contents.{Said, contents_of}
use Rattle.volume_contents.specs.Checks.{findings_of}
use Rattle.dasd_contents.specs.Lines.{finding_line}
use Rattle.dasd_contents.specs.Objects.{finding_object}
use Rattle.dasd_extract.specs.Stops.{stop_text}
use Rattle.library_contents.specs.Lines.{what, directory_text}
use Rattle.volume_findings.specs.declared.findings.DataFinding.{DataFinding}
use Rattle.volume_findings.specs.declared.findings.DataFault.{DataFault}
use Rattle.volume_findings.specs.declared.findings.DataFault.TheVariants.{Directory, Ends}
use Rattle.volume_findings.specs.Data.{data_findings}

-- what is wrong with data
abbrev pub fault_text : DataFault → List ℕ
fault_text (Directory fault) = directory_text fault
fault_text (Ends stop) = stop_text stop

-- the name of the data set, and of the member in parentheses, as those of files
abbrev pub name_text : DataFinding → List ℕ
name_text f = what (safe_name_of f.data_set) (option_map safe_name_of f.member)

-- a line, or an object of JSON with the paths of the volume
abbrev pub data_text : (json : Option (List ℕ)) → DataFinding → List ℕ
data_text None f = concat (name_text f ∷ codes ": " ∷ fault_text f.fault ∷ line_feed ∷ [])
data_text (Some path) f = concat (
    codes "{\"path\":" ∷ path ∷ codes ",\"name\":\"" ∷ name_text f ∷ codes "\",\"text\":\"" ∷ fault_text f.fault ∷ codes "\"}" ∷ line_feed ∷ [])

-- what is wrong with the label, the control blocks, the extents and the free tracks
abbrev pub contents_text : (json : Option (List ℕ)) → Finding → List ℕ
contents_text None f = finding_line f
contents_text (Some path) f = finding_object path f

-- how many findings there are
abbrev pub total_text : (json : Option (List ℕ)) → (total : ℕ) → List ℕ
total_text None total = concat (quantity_text total (codes "finding") (codes "findings") ∷ line_feed ∷ [])
total_text (Some path) total = concat (codes "{\"path\":" ∷ path ∷ codes ",\"findings\":" ∷ decimal total ∷ codes "}" ∷ line_feed ∷ [])

-- these findings, first those of the contents, and how many there are
abbrev pub listed_text : (json : Option (List ℕ)) → List Finding → List DataFinding → List ℕ
listed_text json of_contents of_data =
    flat_map (contents_text json) of_contents ++ (flat_map (data_text json) of_data ++ total_text json (length of_contents + length of_data))

-- what is wrong with the contents of a volume that says this
abbrev pub contents_findings : Geometry → Said → List Finding
contents_findings g s = s.findings ++ findings_of g s.table s.blocks

abbrev pub said_text : (json : Option (List ℕ)) → Said → Geometry → (slots : List (List ℕ)) → List ℕ
said_text json s g slots = listed_text json (contents_findings g s) (data_findings s.blocks g slots)

-- All that is wrong with what a volume holds.
abbrev pub findings_text : (json : Option (List ℕ)) → Geometry → (slots : List (List ℕ)) → List ℕ
findings_text json g slots = said_text json (contents_of g slots) g slots

-- something is wrong with it
abbrev pub some_found : Said → Geometry → (slots : List (List ℕ)) → Bool
some_found s g slots = nat_lt 0 (length (contents_findings g s) + length (data_findings s.blocks g slots))

-- it is reported whether something is wrong with a volume, if its slots are known
abbrev pub TellsFound : KnownVolume → Bool → Type 0
TellsFound v found = (slots : List (List ℕ)) → v.slots ≡ Some slots → found ≡ some_found (contents_of v.geometry slots) v.geometry slots
