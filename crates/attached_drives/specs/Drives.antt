-- Drives that are attached to a channel, in the order in which they were.
use Rattle.std.specs.Prelude.{ℕ, zero, suc, ◌-◌, ◌==◌, ◌&&◌, length, List, [], ◌∷◌, ◌++◌, map, replicate, Bool, true, false, Option, Some, None}
use Rattle.ckd_track.specs.declared.geometries.Geometry.{Geometry}
use Rattle.ckd_track.specs.declared.model.DriveModel.{DriveModel}
use Rattle.ckd_track.specs.declared.model.DriveModel.TheVariants.{D2311, D2314}
use Rattle.ckd_image.specs.Image.{ImageState}
use Rattle.ckd_command.specs.Drive.{drive_of}
use Rattle.ckd_drive.specs.Work.{DriveState, new_drive}
use Rattle.s360_program.specs.Advances.{Rests}
use Rattle.s360_laws.specs.Machine.{Device}
use Rattle.s360_laws.specs.declared.arm.Arm.{Arm}
use Rattle.s360_laws.specs.declared.arm.Arm.TheVariants.{AtRest}

-- an attached drive: the low byte of its address, its arm, and the drive
pub record AttachedState : Type 0 where
  pub device : ℕ
  pub arm : Arm
  pub drive : DriveState

-- An attached drive between two programs is a device of the machine.
abbrev pub device_of : AttachedState → Device
device_of u = record { device = u.device; arm = u.arm; drive = drive_of u.drive.state }

-- no command is open in these drives, and no written track waits to be saved
abbrev pub AllRest : List AttachedState → Type 0
AllRest [] = Unit {0}
AllRest (u ∷ us) = Rests u.drive × AllRest us

-- in all but the one at a place
abbrev pub OthersRest : (place : ℕ) → List AttachedState → Type 0
OthersRest place [] = Unit {0}
OthersRest zero (u ∷ us) = AllRest us
OthersRest (suc place) (u ∷ us) = Rests u.drive × OthersRest place us

-- A drive that is attached is free, at cylinder 0, head 0, with zero sense bytes.
abbrev pub new_attached : (device : ℕ) → ImageState → AttachedState
new_attached device image = record { device = device; arm = AtRest; drive = new_drive image }

-- the place of the drive with an address, in the order in which they were attached
abbrev pub is_at : (device : ℕ) → AttachedState → Bool
is_at device u = u.device == device

-- each drive's address and image, in their order, and no more
abbrev pub images_of : List AttachedState → List (Option (ℕ × ImageState))
images_of drives = map (λ u. Some (u.device, u.drive.image)) drives ++ replicate (8 - length drives) None

-- two drives are of one model
abbrev pub is_same_model : DriveModel → DriveModel → Bool
is_same_model D2311 D2311 = true
is_same_model D2314 D2314 = true
is_same_model a b = false

-- a pack fits a drive that has held one of this geometry: it is of the same model, and its slots are as large
abbrev pub fits_drive : Geometry → Geometry → Bool
fits_drive held other = is_same_model held.model other.model && (held.track_size == other.track_size)
