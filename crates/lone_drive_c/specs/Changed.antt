-- Which tracks of a volume's file were written, and where their slots lie.
use Rattle.std.specs.Prelude.{◌≡◌, ℤ, ℕ}
use Rattle.ckd_drive.specs.Work.{DriveState}
use Rattle.dasd_files.specs.Files.{FileState, IsFile}
use Rattle.dasd_files.specs.Tracks.{TellsNext}
use Rattle.dasd_files.specs.declared.tracks.ShownTrack.{ShownTrack}
use Rattle.lone_drive_c.specs.Volume.{AllowsFile, IsVolume}

-- The next track is one of the file of a drive's volume, whose slots have this size,
pub record TellsNextOf (since : ℕ) (code : ℤ) (before shown : ShownTrack) (d : DriveState) : Type 0 where
  pub file : FileState
  pub size : ℕ
  pub is_file : IsFile file
  pub is_volume : IsVolume d file.content
  pub is_size : size ≡ d.image.geometry.track_size
  pub tells : TellsNext file size since code before shown

-- where no command is open, and no track waits to be saved.
abbrev pub TellsChanged : (since : ℕ) → (code : ℤ) → (before shown : ShownTrack) → DriveState → Type 0
TellsChanged since code before shown d = AllowsFile d (TellsNextOf since code before shown d) code (shown ≡ before)
