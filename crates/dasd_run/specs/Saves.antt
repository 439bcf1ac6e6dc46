-- What a run writes back at its end.
use Rattle.std.specs.Prelude.{◌≡◌, ℕ, Bool, true, false, List, [], ◌∷◌, map, zip, Option, Some, None, Result, Ok, Err}
use Rattle.std.specs.Result.{result_and}
use Rattle.ckd_image.specs.Image.{ImageState}
use Rattle.s360_words.specs.Storage.{Storage}
use Rattle.s360_laws.specs.Machine.{Machine}
use Rattle.s360_channel.specs.Channel.{ChannelState, StandsFor}
use Rattle.s360_channel.specs.Finishes.{Finishes}
use Rattle.s360_deck.specs.declared.runs.RunFault.{RunFault}
use Rattle.s360_deck.specs.declared.runs.RunFault.TheVariants as run
use Rattle.dasd_words.specs.declared.volumes.Volume.{Volume}
use Rattle.dasd_words.specs.declared.volumes.VolumeSource.{VolumeSource}
use Rattle.dasd_words.specs.declared.volumes.VolumeSource.TheVariants.{Files, New}
use Rattle.dasd_jobs.specs.Back.{IsWritten}
use Rattle.dasd_jobs.specs.Written.{Replaced}
use Rattle.dasd_jobs.specs.declared.faults.JobFault.{JobFault}
use Rattle.dasd_jobs.specs.declared.files.SavePlan.{SavePlan}
use Rattle.dasd_jobs.specs.declared.files.SavePlan.TheVariants.{Nothing, Replaced as by_new, InPlace}
use Rattle.program_faults.specs.declared.fault.ProgramFault.{ProgramFault}
use Rattle.program_faults.specs.declared.fault.ProgramFault.TheVariants as fault

-- the paths of the files that a volume was read from: none, of a new one in memory
abbrev pub paths_of : VolumeSource → List (List ℕ)
paths_of (Files paths) = map (λ path. path.now) paths.items
paths_of (New model cylinders) = []

-- the changed files of volumes were written, each volume's from the image that stands beside it, in their order; without an image there are none
abbrev pub AreSaved : List (Volume × Option (ℕ × ImageState)) → (before now : List Replaced) → Type 0
AreSaved [] before now = now ≡ before
AreSaved ((v, None) ∷ rest) before now = AreSaved rest before now
AreSaved ((v, Some given) ∷ rest) before now =
    (between : List Replaced) × IsWritten (paths_of v.source) given.1 before between × AreSaved rest between now

-- all of them were; or none was, and the fault that is told is a file's
abbrev pub SavesAll : Result (Unit {0}) ProgramFault → List (Volume × Option (ℕ × ImageState)) → (before now : List Replaced) → Type 0
SavesAll (Ok done) volumes before now = AreSaved volumes before now
SavesAll (Err e) volumes before now = (now ≡ before) × (f : JobFault) × (e ≡ fault.Save f)

-- The channel is finished, and then the volumes are saved as one, in the order of the words, from the images of its drives in theirs.
pub record SavesRun (result : Result (Unit {0}) ProgramFault) (volumes : List Volume) (channel : ChannelState) (before now : List Replaced) : Type 0 where
  pub storage : Storage
  pub images : List (Option (ℕ × ImageState))
  pub unsaved : Option (ℕ × ℕ × ℕ)
  pub finishes : (m : Machine) → StandsFor channel m → Finishes m channel storage images unsaved
  pub saves : SavesAll result (zip volumes images) before now

-- What becomes of the files behind a deck: of one that was run the volumes are saved, and that its answers can't be written is told
-- where no file's fault is; of one that was not run no file is written, and its fault is told.
abbrev pub Concludes : (run : Result (Unit {0}) RunFault) → (result : Result (Unit {0}) ProgramFault) → List Volume → ChannelState
    → (before now : List Replaced) → Type 0
Concludes (Ok done) result volumes channel before now = SavesRun result volumes channel before now
Concludes (Err run.Write) result volumes channel before now =
    (saved : Result (Unit {0}) ProgramFault) × SavesRun saved volumes channel before now × (result ≡ result_and saved (Err (fault.Run run.Write)))
Concludes (Err f) result volumes channel before now = (result ≡ Err (fault.Run f)) × (now ≡ before)

-- how a run ends of which nothing is saved: as its deck
abbrev pub unsaved_ending : Result (Unit {0}) RunFault → Result (Unit {0}) ProgramFault
unsaved_ending (Ok done) = Ok done
unsaved_ending (Err f) = Err (fault.Run f)

-- what becomes of the files of a run: nothing where nothing is saved, and else each keeps its place, where that is asked, or is replaced
abbrev pub plan_of : (saves in_place : Bool) → SavePlan
plan_of false in_place = Nothing
plan_of true true = InPlace
plan_of true false = by_new

-- the files are saved, where that is asked; and else none is written
abbrev pub Ends : (saves : Bool) → (run : Result (Unit {0}) RunFault) → (result : Result (Unit {0}) ProgramFault) → List Volume → ChannelState
    → (before now : List Replaced) → Type 0
Ends true run result volumes channel before now = Concludes run result volumes channel before now
Ends false run result volumes channel before now = (result ≡ unsaved_ending run) × (now ≡ before)
