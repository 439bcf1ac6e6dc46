-- What a volume holds, as it is printed: its label, its data sets, and what is wrong with them.
use Rattle.std.specs.Prelude.{◌≡◌, ◌≢◌, ◌⊎◌, ℕ, if◌then◌else◌, List, ◌++◌, length, Option, Some, None, Result, Ok, Err}
use Rattle.std.specs.List.{flat_map}
use Rattle.counted_io.specs.Streams.{Stream, Takes, TakesFront, NoneFailed, OneFailed, IsFlushed}
use Rattle.ckd_track.specs.declared.geometries.Geometry.{Geometry}
use Rattle.dasd_volumes.specs.Reading.{KnownVolume}
use Rattle.volume_contents.specs.declared.findings.Finding.{Finding}
use Rattle.volume_contents.specs.declared.reading.Contents.{Contents}
use Rattle.volume_contents.specs.Contents.{Said, contents_of}
use Rattle.volume_contents.specs.Checks.{findings_of}
use Rattle.dasd_contents.specs.Lines.{volume_lines, finding_line, contents_lines}
use Rattle.dasd_contents.specs.Objects.{volume_objects, finding_object, contents_objects}
use Rattle.dasd_words.specs.declared.requests.PrintedVolume.{PrintedVolume}
use Rattle.dasd_jobs.specs.declared.faults.JobFault.TheVariants as job
use Rattle.dasd_run.specs.declared.commands.Ending.{Ending}
use Rattle.program_faults.specs.declared.fault.ProgramFault.{ProgramFault}
use Rattle.program_faults.specs.declared.fault.ProgramFault.TheVariants as fault
use Rattle.dasd_run.specs.Ended.{counted_ending}
use Rattle.dasd_run.specs.Outside.{Outside}
use Rattle.dasd_run.specs.Paths.{quoted_paths}
use Rattle.dasd_run.specs.Printed.{paths_of, IsUnopened}
use Rattle.dasd_run.specs.Reaches.{EndsOver}

-- all that is wrong: with the label and the control blocks, and with the data sets and the free tracks
abbrev pub all_findings : Geometry → Said → List Finding
all_findings g s = s.findings ++ findings_of g s.table s.blocks

-- what a volume says of itself, in lines, or in objects of JSON with its paths
abbrev pub said_text : (json : Option (List ℕ)) → Geometry → Said → (findings : List Finding) → List ℕ
said_text None g s findings = volume_lines g s.blocks s.label s.table ++ flat_map finding_line findings
said_text (Some path) g s findings = volume_objects path g s.blocks s.label s.table ++ flat_map (finding_object path) findings

abbrev pub held_text : (json : Option (List ℕ)) → Geometry → (slots : List (List ℕ)) → List ℕ
held_text json g slots = said_text json g (contents_of g slots) (all_findings g (contents_of g slots))

-- the same of what was read
abbrev pub contents_text : (json : Option (List ℕ)) → Geometry → Contents → List ℕ
contents_text None g c = contents_lines g c
contents_text (Some path) g c = contents_objects path g c

-- this is what is said, with all that is wrong, if the slots of the volume are known
pub record SaysWith (s : Said) (all : List Finding) (c : Contents) : Type 0 where
  pub label : c.label ≡ s.label
  pub table : c.table ≡ s.table
  pub blocks : c.found.blocks.items ≡ s.blocks
  pub findings : c.found.findings.items ≡ all

abbrev pub SaysAll : KnownVolume → Contents → Type 0
SaysAll v c = (slots : List (List ℕ)) → v.slots ≡ Some slots → SaysWith (contents_of v.geometry slots) (all_findings v.geometry (contents_of v.geometry slots))
    c

abbrev pub held_ending : Geometry → (slots : List (List ℕ)) → Ending
held_ending g slots = counted_ending (length (all_findings g (contents_of g slots)))

-- a write failed, or the flush, exactly where that is the fault
abbrev pub CountsFault : ProgramFault → (before now : Stream) → Type 0
CountsFault f before now = ((f ≢ fault.Job job.Write) × NoneFailed before now) ⊎ ((f ≡ fault.Job job.Write) × OneFailed before now)

-- What a volume says of itself was printed, and none of it held back, and it is reported if something is wrong; or with a fault only its
-- first bytes were.
abbrev pub PrintsHeld : Result Ending ProgramFault → (json : Option (List ℕ)) → KnownVolume → (before now : Stream) → Type 0
PrintsHeld (Ok ending) json v before now =
    ((slots : List (List ℕ)) → v.slots ≡ Some slots → Takes before now (held_text json v.geometry slots) × (ending ≡ held_ending v.geometry slots))
    × NoneFailed before now × IsFlushed now
PrintsHeld (Err f) json v before now =
    ((slots : List (List ℕ)) → v.slots ≡ Some slots → TakesFront before now (held_text json v.geometry slots)) × CountsFault f before now

-- in objects the paths of the files are a string of JSON
abbrev pub json_path : PrintedVolume → Option (List ℕ)
json_path asked = if asked.json then Some (quoted_paths (paths_of asked)) else None

-- The volume in the files at the paths that were named was printed so, and no other file was opened; or it was not opened, and nothing was
-- printed.
abbrev pub ListsContents : Result Ending ProgramFault → PrintedVolume → (before now : Outside) → Type 0
ListsContents result asked before now =
    IsUnopened asked.as_far result (paths_of asked) before.opened now.opened before.printed now.printed
    ⊎ EndsOver result asked.as_far (paths_of asked) before.opened now.opened (λ ended v. PrintsHeld ended (json_path asked) v before.printed now.printed)
