-- More of what a volume holds than its table says, and the members of its libraries.
use Rattle.std.specs.Prelude.{◌≡◌, ◌⊎◌, ℕ, Bool, List, ◌++◌, Some, Result, Ok, Err}
use Rattle.counted_io.specs.Streams.{Stream, Takes, TakesFront, NoneFailed, IsFlushed}
use Rattle.ckd_track.specs.declared.geometries.Geometry.{Geometry}
use Rattle.dasd_volumes.specs.Reading.{KnownVolume}
use Rattle.volume_contents.specs.Contents.{contents_of}
use Rattle.library_contents.specs.Report.{Line, printed, some_wrong}
use Rattle.volume_details.specs.declared.fault.MemberListFault.{MemberListFault}
use Rattle.volume_details.specs.Libraries.{ListsLibrary}
use Rattle.volume_details.specs.Sections.{Views, sections}
use Rattle.dasd_words.specs.declared.requests.DetailedVolume.{DetailedVolume}
use Rattle.dasd_words.specs.declared.requests.ListedLibrary.{ListedLibrary}
use Rattle.dasd_jobs.specs.Sources.{OfVolume}
use Rattle.dasd_run.specs.declared.commands.Ending.{Ending}
use Rattle.dasd_run.specs.declared.commands.Ending.TheVariants.{Done}
use Rattle.program_faults.specs.declared.fault.ProgramFault.{ProgramFault}
use Rattle.dasd_run.specs.Ended.{ended, worse}
use Rattle.program_faults.specs.Faults.{library_fault}
use Rattle.dasd_run.specs.Outside.{Outside}
use Rattle.dasd_run.specs.Held.{held_text, held_ending, CountsFault, json_path}
use Rattle.dasd_run.specs.Printed.{paths_of, IsUnopened}
use Rattle.dasd_run.specs.Reaches.{EndsOver}

-- the sections of what a volume says of itself
abbrev pub held_sections : Views → Geometry → (slots : List (List ℕ)) → List Line
held_sections v g slots = sections v (contents_of g slots).blocks g slots

-- what a volume says of itself, and behind it its sections
abbrev pub details_text : Views → Geometry → (slots : List (List ℕ)) → List ℕ
details_text v g slots = held_text v.json g slots ++ printed (held_sections v g slots)

-- it is reported if something is wrong with the volume, or with members
abbrev pub details_ending : Views → Geometry → (slots : List (List ℕ)) → Ending
details_ending v g slots = worse (held_ending g slots) (some_wrong (held_sections v g slots))

-- All of that was printed, and none of it held back; or with a fault only its first bytes were.
abbrev pub PrintsDetails : Result Ending ProgramFault → Views → KnownVolume → (before now : Stream) → Type 0
PrintsDetails (Ok ending) shown v before now =
    ((slots : List (List ℕ)) → v.slots ≡ Some slots
    → Takes before now (details_text shown v.geometry slots) × (ending ≡ details_ending shown v.geometry slots))
    × NoneFailed before now × IsFlushed now
PrintsDetails (Err f) shown v before now =
    ((slots : List (List ℕ)) → v.slots ≡ Some slots → TakesFront before now (details_text shown v.geometry slots)) × CountsFault f before now

-- what is shown of data sets, as words ask for it
abbrev pub views_asked : DetailedVolume → Views
views_asked asked = record { json = json_path asked.volume; members = asked.members; is_long = asked.is_long }

-- The volume in the files at the paths that were named was printed so, and no other file was opened; or it was not opened, and nothing was
-- printed.
abbrev pub ListsDetails : Result Ending ProgramFault → DetailedVolume → (before now : Outside) → Type 0
ListsDetails result asked before now =
    IsUnopened asked.volume.as_far result (paths_of asked.volume) before.opened now.opened before.printed now.printed
    ⊎ EndsOver result asked.volume.as_far (paths_of asked.volume) before.opened now.opened
    (λ ended v. PrintsDetails ended (views_asked asked) v before.printed now.printed)

-- The members of the data set that is named were printed, of the volume in the files that were named, and no other file was opened; or nothing
-- was printed, and why.
abbrev pub ListsMembers : Result Ending ProgramFault → ListedLibrary → (before now : Outside) → Type 0
ListsMembers result asked before now =
    IsUnopened asked.volume.as_far result (paths_of asked.volume) before.opened now.opened before.printed now.printed
    ⊎ ((listing : Result Bool MemberListFault) × (result ≡ ended library_fault (worse Done) listing)
    × OfVolume asked.volume.as_far (paths_of asked.volume) before.opened now.opened
    (λ v. ListsLibrary listing asked.name.now (json_path asked.volume) v before.printed now.printed))
