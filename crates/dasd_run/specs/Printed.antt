-- What a command prints of the volume of files, and which part of it words ask for.
use Rattle.std.specs.Prelude.{◌≡◌, ◌≤◌, ◌<◌, ◌⊎◌, ◌-◌, ℕ, Bool, true, false, not, List, map, Option, Some, None, Result, Ok, Err, IfOk, IfErr}
use Rattle.std.specs.Prelude.{OnOk}
use Rattle.counted_io.specs.Streams.{Stream, IsFlushed}
use Rattle.ckd_track.specs.declared.geometries.Geometry.{Geometry}
use Rattle.dasd_volumes.specs.declared.fault.VolumeFault.{VolumeFault}
use Rattle.dasd_volumes.specs.declared.fault.VolumeFault.TheVariants as volume
use Rattle.dasd_volumes.specs.Printing.{PrintsText, CountsWrites}
use Rattle.dasd_volumes.specs.Reading.{KnownVolume}
use Rattle.dasd_volumes.specs.declared.forms.Style.{Style}
use Rattle.dasd_volumes.specs.declared.forms.Style.TheVariants.{Text, Json}
use Rattle.dasd_volumes.specs.declared.walks.Range.{Range}
use Rattle.dasd_archive.specs.declared.dumps.VolumePart.{VolumePart}
use Rattle.dasd_volumes.specs.Listing.{list_text}
use Rattle.volume_hash.specs.SetLines.{Shown}
use Rattle.volume_hash.specs.Prints.{TellsWhole}
use Rattle.volume_hash.specs.Sets.{hashes_text}
use Rattle.dasd_words.specs.declared.requests.Numbers.{Numbers}
use Rattle.dasd_words.specs.declared.requests.ListedPart.{ListedPart}
use Rattle.dasd_words.specs.declared.requests.DumpedPart.{DumpedPart}
use Rattle.dasd_words.specs.declared.requests.PrintedVolume.{PrintedVolume}
use Rattle.dasd_jobs.specs.declared.faults.JobFault.TheVariants as job
use Rattle.dasd_jobs.specs.Sources.{SourceFile}
use Rattle.dasd_jobs.specs.Unopened.{NotOpened}
use Rattle.dasd_run.specs.declared.commands.Ending.{Ending}
use Rattle.program_faults.specs.declared.fault.ProgramFault.{ProgramFault}
use Rattle.program_faults.specs.declared.fault.ProgramFault.TheVariants as fault
use Rattle.dasd_run.specs.declared.commands.Ending.TheVariants.{Done}
use Rattle.dasd_run.specs.Ended.{ended, done_or, worse}
use Rattle.program_faults.specs.Faults.{printing_fault}

-- for whom lines are printed
abbrev pub style_of : (json : Bool) → Style
style_of true = Json
style_of false = Text

-- the paths of the files of a volume of which something is printed
abbrev pub paths_of : PrintedVolume → List (List ℕ)
paths_of asked = map (λ path. path.now) asked.paths.items

-- the part of a volume that words ask for
abbrev pub range_of : Numbers → Range
range_of numbers = record { first = numbers.first; last = numbers.last }

abbrev pub asked_part : DumpedPart → VolumePart
asked_part part = record { cylinders = range_of part.cylinders; heads = range_of part.heads; numbers = range_of part.records }

-- the cylinders that words ask for, or all of a volume
abbrev pub asked_cylinders : Option Numbers → Geometry → Range
asked_cylinders (Some numbers) g = range_of numbers
asked_cylinders None g = record { first = 0; last = g.cylinders - 1 }

abbrev pub HasCylinders : Option Numbers → Geometry → Type 0
HasCylinders asked g =
    ((asked_cylinders asked g).first ≤ (asked_cylinders asked g).last) × ((asked_cylinders asked g).last < g.cylinders)

-- what a list prints of the part of a volume that words ask for
abbrev pub asked_list : Style → (path : List ℕ) → ListedPart → Geometry → (slots : List (List ℕ)) → List ℕ
asked_list style path part g slots = list_text style path part.used_only (asked_cylinders part.cylinders g) g slots

-- Why the volume in the files at these paths is not opened: there is no memory for the paths as they are printed, and no file was opened;
-- or its job's fault says why.
abbrev pub WhyUnopened : (as_far : Bool) → ProgramFault → (paths : List (List ℕ)) → (opened_before opened : List SourceFile) → Type 0
WhyUnopened as_far fault.OutOfMemory paths opened_before opened = opened ≡ opened_before
WhyUnopened as_far (fault.Job f) paths opened_before opened = NotOpened as_far f paths opened_before opened
WhyUnopened as_far f paths opened_before opened = ⊥

-- it is not opened, and nothing is printed
abbrev pub IsUnopened : (as_far : Bool) → Result Ending ProgramFault → (paths : List (List ℕ)) → (opened_before opened : List SourceFile)
    → (before now : Stream) → Type 0
IsUnopened as_far (Ok ending) paths opened_before opened before now = ⊥
IsUnopened as_far (Err f) paths opened_before opened before now = WhyUnopened as_far f paths opened_before opened × (now ≡ before)

-- This text of a volume is printed, and none of it held back; or with a fault only its first bytes are. A write or the flush failed
-- exactly where that is the fault.
abbrev pub PrintsWhole : {A : Type 0} → Result A VolumeFault → (text : Geometry → List (List ℕ) → List ℕ) → KnownVolume → (before now : Stream) → Type 0
PrintsWhole printing text v before now = PrintsText printing text v before now × CountsWrites printing before now × OnOk printing (IsFlushed now)

-- memory is taken before anything is printed: where there is none, nothing is
abbrev pub TakesMemoryFirst : Result Ending ProgramFault → (before now : Stream) → Type 0
TakesMemoryFirst result before now = IfErr result (λ e. e ≡ fault.Job job.OutOfMemory → now ≡ before)

-- this text of a part of a volume is printed, where the volume has that part; and else nothing is, and there is no such track
abbrev pub PrintsPart : Result Ending ProgramFault → (Geometry → Type 0) → (text : Geometry → List (List ℕ) → List ℕ) → KnownVolume
    → (before now : Stream) → Type 0
PrintsPart result HasPart text v before now =
    (HasPart v.geometry × (printing : Result (Unit {0}) VolumeFault) × (result ≡ done_or printing_fault printing)
    × PrintsWhole printing text v before now)
    ⊎ ((HasPart v.geometry → ⊥) × (result ≡ Err fault.NoTrack) × (now ≡ before))

-- the hash of a volume and those that are asked for are printed, or nothing where there is no memory; and whether all is whole is told:
-- there are findings where it is not
abbrev pub HashesWhole : Result Ending ProgramFault → Shown → KnownVolume → (before now : Stream) → Type 0
HashesWhole result f v before now =
    (hashing : Result Bool VolumeFault) × (result ≡ ended printing_fault (λ whole. worse Done (not whole)) hashing) × IfOk hashing (TellsWhole f v)
    × IfErr hashing (λ e. e ≡ volume.OutOfMemory → now ≡ before) × PrintsWhole hashing (hashes_text f) v before now
