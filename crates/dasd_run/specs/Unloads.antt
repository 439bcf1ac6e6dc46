-- Data sets that are taken out of a volume.
use Rattle.std.specs.Prelude.{◌≡◌, ◌⊎◌, ℕ, Bool, List, map, Result, Ok, Err, OnOk}
use Rattle.std.specs.Option.{option_copied}
use Rattle.counted_io.specs.Streams.{IsFlushed}
use Rattle.dasd_words.specs.declared.requests.ExtractedSet.{ExtractedSet}
use Rattle.dasd_words.specs.declared.requests.ExtractedTracks.{ExtractedTracks}
use Rattle.dasd_words.specs.declared.requests.ExtractedVolume.{ExtractedVolume}
use Rattle.dasd_jobs.specs.Sources.{SourceFile, OfVolume}
use Rattle.dasd_unload.specs.declared.fault.UnloadFault.{UnloadFault}
use Rattle.dasd_unload.specs.Unloads.{Outcome}
use Rattle.dasd_unload.specs.Asked.{AskedSet, asked, CountsSet}
use Rattle.dasd_unload.specs.Causes.{UnloadsOrTells}
use Rattle.dasd_unload.specs.Tracks.{AskedTracks, asked_tracks, TracksOrTell}
use Rattle.dasd_unload.specs.Volumes.{Plan, plan_of, CountsReport, UnloadsVolume}
use Rattle.dasd_run.specs.declared.commands.Ending.{Ending}
use Rattle.program_faults.specs.declared.fault.ProgramFault.{ProgramFault}
use Rattle.program_faults.specs.declared.fault.ProgramFault.TheVariants as fault
use Rattle.dasd_run.specs.Ended.{ended, done_or, counted_ending}
use Rattle.dasd_run.specs.Outside.{Outside, left_of}
use Rattle.dasd_run.specs.Paths.{quoted_paths}
use Rattle.dasd_run.specs.Printed.{WhyUnopened}
use Rattle.dasd_unload.specs.declared.sets.BlockForm.{BlockForm}
use Rattle.dasd_unload.specs.declared.sets.BlockForm.TheVariants as form
use Rattle.dasd_words.specs.declared.requests.FileForm.{FileForm}
use Rattle.dasd_words.specs.declared.requests.FileForm.TheVariants as words

-- the volume in the files at these paths is not opened, or there is no memory; and nothing came, and nothing was printed
abbrev pub NothingCame : (as_far : Bool) → Result Ending ProgramFault → (paths : List (List ℕ)) → (opened_before opened : List SourceFile)
    → (before now : Outcome) → Type 0
NothingCame as_far (Ok ending) paths opened_before opened before now = ⊥
NothingCame as_far (Err f) paths opened_before opened before now = WhyUnopened as_far f paths opened_before opened × (now ≡ before)

-- how blocks are written to what a file is to have
abbrev pub block_form_of : FileForm → BlockForm
block_form_of words.Blocks = form.Raw
block_form_of words.WithLengths = form.WithLengths
block_form_of words.Text = form.Text

-- the data set that is asked for, or the member of one
abbrev pub asked_set : ExtractedSet → AskedSet
asked_set e = asked e.name.data_set.now (option_copied e.name.member) (block_form_of e.form) e.given (option_copied e.target)

-- It was unloaded from the volume in the files that were named, and no other file was opened; or its fault says why it was not, or not to
-- its end.
pub record TakesSet (result : Result Ending ProgramFault) (e : ExtractedSet) (opened_before opened : List SourceFile) (before now : Outcome) : Type 0 where
  pub unloading : Result (Unit {0}) UnloadFault
  pub told : result ≡ done_or fault.Unload unloading
  pub unloaded : OfVolume e.as_far (map (λ path. path.now) e.paths.items) opened_before opened (λ v. UnloadsOrTells unloading (asked_set e) v before now)
  pub writes : CountsSet unloading (option_copied e.target) before.printed now.printed

abbrev pub ExtractsSet : Result Ending ProgramFault → ExtractedSet → (before now : Outside) → Type 0
ExtractsSet result e before now =
    NothingCame e.as_far result (map (λ path. path.now) e.paths.items) before.opened now.opened (left_of before) (left_of now)
    ⊎ TakesSet result e before.opened now.opened (left_of before) (left_of now)

-- the data set whose tracks are asked for
abbrev pub tracks_asked : ExtractedTracks → AskedTracks
tracks_asked e = asked_tracks e.name.now (option_copied e.target)

-- Its tracks were unloaded from the volume in the files that were named, and no other file was opened; or its fault says why they were
-- not, or not all.
pub record TakesTracks (result : Result Ending ProgramFault) (e : ExtractedTracks) (opened_before opened : List SourceFile) (before now : Outcome) : Type 0 where
  pub unloading : Result (Unit {0}) UnloadFault
  pub told : result ≡ done_or fault.Unload unloading
  pub unloaded : OfVolume e.as_far (map (λ path. path.now) e.paths.items) opened_before opened (λ v. TracksOrTell unloading (tracks_asked e) v before now)
  pub writes : CountsSet unloading (option_copied e.target) before.printed now.printed

abbrev pub ExtractsTracks : Result Ending ProgramFault → ExtractedTracks → (before now : Outside) → Type 0
ExtractsTracks result e before now =
    NothingCame e.as_far result (map (λ path. path.now) e.paths.items) before.opened now.opened (left_of before) (left_of now)
    ⊎ TakesTracks result e before.opened now.opened (left_of before) (left_of now)

-- where all data sets go, and how what is told of them is printed
abbrev pub asked_plan : ExtractedVolume → Plan
asked_plan e = plan_of e.folder.now (block_form_of e.form) e.json (quoted_paths (map (λ path. path.now) e.paths.items))

-- All were unloaded from the volume in the files that were named, and no other file was opened; it is reported if something is wrong, and
-- nothing that is told is held back. Or a fault stopped it.
pub record TakesAll (result : Result Ending ProgramFault) (e : ExtractedVolume) (opened_before opened : List SourceFile) (before now : Outcome) : Type 0 where
  pub unloading : Result ℕ UnloadFault
  pub told : result ≡ ended fault.Unload counted_ending unloading
  pub unloaded : UnloadsVolume e.as_far unloading (map (λ path. path.now) e.paths.items) (asked_plan e) opened_before opened before now
  pub writes : CountsReport unloading before.printed now.printed
  pub flushed : OnOk unloading (IsFlushed now.printed)

abbrev pub ExtractsVolume : Result Ending ProgramFault → ExtractedVolume → (before now : Outside) → Type 0
ExtractsVolume result e before now =
    NothingCame e.as_far result (map (λ path. path.now) e.paths.items) before.opened now.opened (left_of before) (left_of now)
    ⊎ TakesAll result e before.opened now.opened (left_of before) (left_of now)
