-- What a strict check of the volume of files prints: what is found of the headers, and of the volume.
use Rattle.std.specs.Prelude.{◌≡◌, ◌⊎◌, ◌+◌, ℕ, min, Bool, List, [], ◌++◌, length, slice_index_or, Result, Ok, Err, IfOk}
use Rattle.std.specs.List.{AllZip}
use Rattle.counted_io.specs.Streams.{Stream}
use Rattle.ckd_track.specs.declared.geometries.Geometry.{Geometry}
use Rattle.dasd_volumes.specs.declared.fault.VolumeFault.{VolumeFault}
use Rattle.dasd_volumes.specs.Reading.{KnownVolume}
use Rattle.dasd_volumes.specs.Volumes.{of_each}
use Rattle.dasd_archive.specs.declared.findings.StrictFinding.{StrictFinding}
use Rattle.dasd_archive.specs.declared.reports.FindingStyle.{FindingStyle}
use Rattle.dasd_archive.specs.declared.reports.Tally.{Tally}
use Rattle.dasd_archive.specs.Reports.{finding_lines}
use Rattle.dasd_archive.specs.Strict.{findings_in_header, strict_text, Adds}
use Rattle.dasd_words.specs.declared.requests.StrictCheck.{StrictCheck}
use Rattle.dasd_jobs.specs.Sources.{Content, SourceFile, IsHeader, OpensPaths, Mounts, OfVolume, volume_in}
use Rattle.dasd_jobs.specs.declared.faults.JobFault.TheVariants.{Read, OutOfMemory}
use Rattle.dasd_run.specs.declared.commands.Ending.{Ending}
use Rattle.program_faults.specs.declared.fault.ProgramFault.{ProgramFault}
use Rattle.program_faults.specs.declared.fault.ProgramFault.TheVariants as fault
use Rattle.dasd_run.specs.Ended.{ended, counted_ending}
use Rattle.program_faults.specs.Faults.{printing_fault}
use Rattle.dasd_run.specs.Outside.{Outside}
use Rattle.dasd_run.specs.Paths.{quoted_paths}
use Rattle.dasd_run.specs.Printed.{style_of, paths_of, IsUnopened, PrintsWhole}

-- what is found of the headers of files, the first of which is number 1; numbers go up to 255
abbrev pub found_in : (heads : List (List ℕ)) → List StrictFinding
found_in heads = of_each (λ i. findings_in_header (min (i + 1) 255) (slice_index_or heads i [])) (length heads)

-- what is found of the headers and of the volume, and how many there are of each severity
abbrev pub checked_text : FindingStyle → (path : List ℕ) → (heads : List (List ℕ)) → Geometry → (slots : List (List ℕ)) → List ℕ
checked_text style path heads g slots = finding_lines style path (found_in heads) ++ strict_text style path (found_in heads) g slots

-- a strict check has findings where there is an error
abbrev pub checked_ending : Tally → Ending
checked_ending tally = counted_ending tally.errors

-- all that is found of headers and of a volume is printed and counted
abbrev pub ChecksWhole : Result Ending ProgramFault → FindingStyle → (path : List ℕ) → (heads : List (List ℕ)) → KnownVolume → (before now : Stream) → Type 0
ChecksWhole result style path heads v before now =
    (checking : Result Tally VolumeFault) × (result ≡ ended printing_fault checked_ending checking) × IfOk checking (Adds (found_in heads) v)
    × PrintsWhole checking (checked_text style path heads) v before now

-- The files at these paths were opened, once each, and no other; and this is said of the volume that they hold and of their headers.
pub record OfHeads (as_far : Bool) (paths : List (List ℕ)) (before now : List SourceFile) (P : KnownVolume → List (List ℕ) → Type 0) : Type 0 where
  pub geometry : Geometry
  pub contents : List Content
  pub opens : OpensPaths paths contents before now
  pub mounts : Mounts as_far contents geometry
  pub heads : List (List ℕ)
  pub are_heads : AllZip IsHeader contents heads
  pub so : P (volume_in geometry contents) heads

-- The volume was opened, and a header of its files can't be read, or there is no memory for them; nothing is printed.
abbrev pub HasNoHeads : (as_far : Bool) → Result Ending ProgramFault → (paths : List (List ℕ)) → (opened_before opened : List SourceFile)
    → (before now : Stream) → Type 0
HasNoHeads as_far (Ok ending) paths opened_before opened before now = ⊥
HasNoHeads as_far (Err f) paths opened_before opened before now =
    ((f ≡ fault.Job Read) ⊎ (f ≡ fault.Job OutOfMemory)) × OfVolume as_far paths opened_before opened (λ v. Unit {0}) × (now ≡ before)

-- for whom what is found is printed, and whether notes are
abbrev pub checked_style : StrictCheck → FindingStyle
checked_style asked = record { style = style_of asked.volume.json; with_notes = asked.with_notes }

-- the volume in the files that are named is checked; or they are not opened, and nothing is printed
abbrev pub ChecksStrictly : Result Ending ProgramFault → StrictCheck → (before now : Outside) → Type 0
ChecksStrictly result asked before now =
    IsUnopened asked.volume.as_far result (paths_of asked.volume) before.opened now.opened before.printed now.printed
    ⊎ HasNoHeads asked.volume.as_far result (paths_of asked.volume) before.opened now.opened before.printed now.printed
    ⊎ OfHeads asked.volume.as_far (paths_of asked.volume) before.opened now.opened
    (λ v heads. ChecksWhole result (checked_style asked) (quoted_paths (paths_of asked.volume)) heads v before.printed now.printed)
