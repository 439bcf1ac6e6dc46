-- Of what a drive alone is made, and why it is not.
use Rattle.std.specs.Prelude.{◌≡◌, ◌<◌, ◌≤◌, ℕ, List, [], ◌∷◌, length, replicate, Err}
use Rattle.ckd_track.specs.declared.model.DriveModel.{DriveModel}
use Rattle.ckd_track.specs.Geometry.{new_geometry}
use Rattle.ckd_image.specs.Header.{mount_of}
use Rattle.ckd_image.specs.Image.{ImageState, Holds, image_in, new_image}
use Rattle.ckd_image.specs.Layout.{image_length}
use Rattle.ckd_image.specs.declared.fault.MountFault.{MountFault}
use Rattle.ckd_image.specs.declared.fault.MountFault.TheVariants.{StoreFault}
use Rattle.ckd_drive.specs.Work.{DriveState, new_drive}
use Rattle.lone_drive_c.specs.declared.refusal.NotMade.{NotMade}
use Rattle.lone_drive_c.specs.declared.refusal.NotMade.TheVariants.{NoCylinders, Mount, OutOfMemory}

-- A drive is new, and its image is that of this file, of which no call has failed.
pub record IsOver (file : List ℕ) (d : DriveState) : Type 0 where
  pub image : ImageState
  pub holds : Holds (file ∷ []) image.geometry image.slots
  pub of_file : image ≡ image_in image.geometry (file ∷ []) (file ∷ []) 0
  pub new : d ≡ new_drive image

-- the image of a new volume, in a file that was made of zeros
abbrev pub new_volume : DriveModel → (cylinders : ℕ) → ImageState
new_volume model cylinders = new_image model cylinders (replicate (image_length (new_geometry model cylinders)) 0) 0

-- Why a file is no image: the first rule of a mount that it breaks; or its header was not read, which no file in memory meets, as its own
-- contract says.
abbrev pub WhyNoImage : MountFault → (file : List ℕ) → Type 0
WhyNoImage StoreFault file = 512 ≤ length file
WhyNoImage broken file = mount_of (file ∷ []) ≡ Err broken

-- Why there is no drive over a file: it is no image; or there is no memory.
abbrev pub NotMounted : (file : List ℕ) → NotMade → Type 0
NotMounted file OutOfMemory = Unit {0}
NotMounted file (Mount broken) = WhyNoImage broken file
NotMounted file NoCylinders = ⊥

-- Why there is none over a new volume, in this order: it would have no cylinders; there is no memory; its file was not written, which no
-- file in memory meets, as its own contract says.
abbrev pub NotFormatted : (cylinders : ℕ) → NotMade → Type 0
NotFormatted cylinders NoCylinders = cylinders ≡ 0
NotFormatted cylinders OutOfMemory = 0 < cylinders
NotFormatted cylinders (Mount StoreFault) = 0 < cylinders
NotFormatted cylinders (Mount other) = ⊥
