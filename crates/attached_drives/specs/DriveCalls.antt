-- What a call does to the drive at a place in the order of attachment: the others stay.
use Rattle.std.specs.Prelude.{◌≡◌, ◌*◌, ℕ, List, [], ◌∷◌, Bool, true, false, Option, Some, None, slice_get, slice_set}
use Rattle.std.specs.List.{remove}
use Rattle.s360_words.specs.Storage.{Storage}
use Rattle.s360_words.specs.declared.words.Csw.{Csw}
use Rattle.ckd_command.specs.Drive.{drive_of}
use Rattle.ckd_drive.specs.Work.{DriveState, CallsStore, has_track, new_drive, without_sense}
use Rattle.ckd_image.specs.Image.{ImageState}
use Rattle.s360_laws.specs.Unsaved.{has_written}
use Rattle.s360_program.specs.Advances.{RunsOn, Cuts, CallsAtMost, Rests, TellsOf, CutTellsOf}
use Rattle.s360_storage.specs.Kept.{KeepsStorage}
use Rattle.s360_program.specs.Stands.{RunningState, phase_in}
use Rattle.s360_program.specs.Starting.{IsFirst, StartsQuietly}
use Rattle.s360_program.specs.declared.program.LongAdvance.{LongAdvance}
use Rattle.s360_program.specs.declared.program.Start.{Start}
use Rattle.s360_laws.specs.declared.arm.Arm.{Arm}
use Rattle.s360_laws.specs.declared.arm.Arm.TheVariants.{AtRest}
use Rattle.attached_drives.specs.Drives.{AttachedState}
use Rattle.attached_drives.specs.Saved.{attached_as_saved}
use Rattle.attached_drives.specs.Saved.{drive_back, entry, has_track_of}
use Rattle.attached_drives.specs.declared.drives_saved.SavedDrive.{SavedDrive}

-- the drive at a place changed so, but neither its address nor its arm, nor another drive
pub record DriveChanges (place : ℕ) (How : DriveState → DriveState → Type 0)
    (old new : List AttachedState) : Type 0 where
  pub attached : AttachedState
  pub was : slice_get old place ≡ Some attached
  pub drive : DriveState
  pub becomes : new ≡ slice_set old place (record attached { drive = drive })
  pub how : How attached.drive drive

-- an attached drive changed so, but neither its address nor its arm
pub record OnlyDrive (How : DriveState → DriveState → Type 0) (old new : AttachedState) : Type 0 where
  pub same_device : new.device ≡ old.device
  pub same_arm : new.arm ≡ old.arm
  pub how : How old.drive new.drive

-- the drive at a place is one of which this is so
pub record DriveIs (place : ℕ) (Is : DriveState → Type 0) (drives : List AttachedState) : Type 0 where
  pub attached : AttachedState
  pub is_there : slice_get drives place ≡ Some attached
  pub holds : Is attached.drive

-- how the first command of a program finds its drive and leaves it
abbrev pub Starts : (caw : ℕ) → Storage → Start → DriveState → DriveState → Type 0
Starts caw s answer old new =
    IsFirst (record { caw = caw; storage = s; drive = drive_of old.state }) answer old new × StartsQuietly old new

-- The running program does up to so many units at its drive.
pub record AdvancesAt (r : RunningState) (s : Storage) (asked : ℕ) (a : LongAdvance) (r' : RunningState) (s' : Storage)
    (old new : DriveState) : Type 0 where
  pub advances : RunsOn r.key (phase_in r s old) asked a r' s' old new
  pub storage : KeepsStorage s s'
  pub calls : CallsAtMost (2 * a.done) old new
  pub tells : TellsOf a.ending old new

-- The running program is cut: what is told of it, and how its drive is left.
pub record CutsAt (r : RunningState) (told : Csw × Bool × Option (ℕ × ℕ)) (old new : DriveState) : Type 0 where
  pub cut : (s : Storage) → Cuts r.key (phase_in r s old) told old new
  pub calls : (s : Storage) → CallsStore false (has_written (phase_in r s old)) old new
  pub tells : CutTellsOf told old new

-- the arm of the drive at a place does this from now on
pub record ArmChanges (place : ℕ) (arm : Arm) (old new : List AttachedState) : Type 0 where
  pub attached : AttachedState
  pub was : slice_get old place ≡ Some attached
  pub becomes : new ≡ slice_set old place (record attached { arm = arm })

-- The first drive is taken out, if there is one: its address and its image, which holds its volume.
abbrev pub TakesFirst : (old new : List AttachedState) → Option (ℕ × ImageState) → Type 0
TakesFirst [] new taken = (new ≡ []) × (taken ≡ None)
TakesFirst (u ∷ us) new taken = (new ≡ us) × (taken ≡ Some (u.device, u.drive.image))
    × (u.drive.image.slots ≡ u.drive.state.volume.slots)

-- The drive at a place is taken out; its image holds its volume.
pub record Removes (place : ℕ) (image : ImageState) (old new : List AttachedState) : Type 0 where
  pub attached : AttachedState
  pub was : slice_get old place ≡ Some attached
  pub becomes : new ≡ remove old place
  pub gives : image ≡ attached.drive.image
  pub geometry : attached.drive.image.geometry ≡ attached.drive.state.volume.geometry
  pub volume : attached.drive.image.slots ≡ attached.drive.state.volume.slots

-- The drive at a place has another image, and is new; the one that it had holds its volume.
pub record ExchangesPack (place : ℕ) (image before : ImageState) (old new : List AttachedState) : Type 0 where
  pub attached : AttachedState
  pub was : slice_get old place ≡ Some attached
  pub becomes : new ≡ slice_set old place (record attached { drive = new_drive image })
  pub gives : before ≡ attached.drive.image
  pub geometry : attached.drive.image.geometry ≡ attached.drive.state.volume.geometry
  pub volume : attached.drive.image.slots ≡ attached.drive.state.volume.slots

-- the drive at a place rests, and may have a pack with slots of this size
abbrev pub MayExchange : (size : ℕ) → DriveState → Type 0
MayExchange size d = Rests d × (size ≡ d.image.geometry.track_size)

-- as a reset leaves a drive
abbrev pub at_rest_attached : AttachedState → AttachedState
at_rest_attached u = record u { arm = AtRest; drive = record u.drive { state = without_sense u.drive.state } }

-- the drive at a place is at rest
pub record RestsAt (place : ℕ) (old new : List AttachedState) : Type 0 where
  pub attached : AttachedState
  pub was : slice_get old place ≡ Some attached
  pub becomes : new ≡ slice_set old place (at_rest_attached attached)

-- the drive at a place rests, and its volume has the track where one was saved
abbrev pub MayRestore : SavedDrive → DriveState → Type 0
MayRestore saved d = Rests d × (has_track d.state.volume.geometry saved.cylinder saved.head ≡ true)

-- the drive at a place is as one was saved
pub record RestoresAt (place : ℕ) (saved : SavedDrive) (old new : List AttachedState) : Type 0 where
  pub attached : AttachedState
  pub was : slice_get old place ≡ Some attached
  pub becomes : new ≡ slice_set old place (attached_as_saved saved attached)

-- the drive at a place rests, was saved, and its volume has the track where it was
pub record MayBeBack (place : ℕ) (entries : List (Option (ℕ × SavedDrive))) (us : List AttachedState) : Type 0 where
  pub attached : AttachedState
  pub is_there : slice_get us place ≡ Some attached
  pub rests : Rests attached.drive
  pub track : has_track_of (entry attached.device entries) attached.drive.state.volume.geometry ≡ true

-- the drive at a place is as it was saved
pub record PutsBackAt (place : ℕ) (entries : List (Option (ℕ × SavedDrive))) (old new : List AttachedState) : Type 0 where
  pub attached : AttachedState
  pub was : slice_get old place ≡ Some attached
  pub becomes : new ≡ slice_set old place (drive_back (entry attached.device entries) attached)
