-- The file of a drive's volume, shown and given back.
use Rattle.std.specs.Prelude.{◌≡◌, ℤ, pos, ℕ, ◌==◌, Bool, not, List, length, Option, Some, None}
use Rattle.ckd_image.specs.Image.{IsFileAt}
use Rattle.ckd_command.specs.Drive.{is_written}
use Rattle.ckd_drive.specs.Work.{DriveState, is_idle}
use Rattle.lone_drive_c.specs.declared.drive.LoneDrive.{LoneDrive}
use Rattle.lone_drive_c.specs.declared.volume.File.{File}
use Rattle.lone_drive_c.specs.Calls.{Allowed}
use Rattle.lone_drive_c.specs.Codes.{nothing_held, command_open, not_saved, other_length}

-- The first file of a drive's image is this, and the image is the drive's volume, with all that was written.
pub record IsVolume (d : DriveState) (file : List ℕ) : Type 0 where
  pub first : IsFileAt d.image 0 (Some file)
  pub geometry : d.image.geometry ≡ d.state.volume.geometry
  pub slots : d.image.slots ≡ d.state.volume.slots

-- What is done with that file is allowed where no command is open, and no track waits to be saved.
abbrev pub AllowsFile : DriveState → (does : Type 0) → (code : ℤ) → (stays : Type 0) → Type 0
AllowsFile d does code stays = Allowed (is_idle d.work) command_open
    (Allowed (not (is_written d.state)) not_saved does code stays) code stays

-- The file of the volume is shown by its length.
pub record ShowsVolume (code : ℤ) (shown : File) (d : DriveState) : Type 0 where
  pub told : code ≡ pos 0
  pub file : List ℕ
  pub is_volume : IsVolume d file
  pub shows : shown.len ≡ length file

abbrev pub ShowsFile : (code : ℤ) → (before shown : File) → DriveState → Type 0
ShowsFile code before shown d = AllowsFile d (ShowsVolume code shown d) code (shown ≡ before)

-- A file's bytes are copied, where there is room for just these; else nothing is.
abbrev pub CopiesContent : (file : List ℕ) → (code : ℤ) → (before into : List ℕ) → Type 0
CopiesContent file code before into =
    Allowed (length file == length before) other_length ((code ≡ pos 0) × (into ≡ file)) code (into ≡ before)

-- The file of the volume is copied.
pub record CopiesVolume (code : ℤ) (before into : List ℕ) (d : DriveState) : Type 0 where
  pub file : List ℕ
  pub is_volume : IsVolume d file
  pub copies : CopiesContent file code before into

abbrev pub CopiesFile : (code : ℤ) → (before into : List ℕ) → DriveState → Type 0
CopiesFile code before into d = AllowsFile d (CopiesVolume code before into d) code (into ≡ before)

-- The drive of a handle gives its volume back: the file is copied, and the handle holds nothing then. Where that is refused, or the handle
-- holds nothing, nothing has changed.
abbrev pub GivesBack : (old new : Option LoneDrive) → (code : ℤ) → (before into : List ℕ) → Type 0
GivesBack None new code before into = (code ≡ nothing_held) × ((into ≡ before) × (new ≡ None))
GivesBack (Some d) None code before into = (code ≡ pos 0) × CopiesFile code before into d.drive
GivesBack (Some d) (Some e) code before into = (e ≡ d) × ((code ≡ pos 0 → ⊥) × CopiesFile code before into d.drive)
