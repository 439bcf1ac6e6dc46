-- An image as the layers above see it, and the files that hold it.
use Rattle.std.specs.Prelude.{◌≡◌, ℕ, ◌+◌, ◌≤◌, List, [], ◌∷◌, ◌++◌, length, take, map, All, ◌==◌, ◌||◌, nat_lt, if◌then◌else◌, Option, slice_get, Result, Ok}
use Rattle.std.specs.Prelude.{Err, IsOk}
use Rattle.std.specs.List.{concat}
use Rattle.ckd_track.specs.declared.model.DriveModel.{DriveModel}
use Rattle.ckd_track.specs.declared.geometries.Geometry.{Geometry}
use Rattle.ckd_image.specs.declared.fault.MountFault.{MountFault}
use Rattle.ckd_image.specs.declared.fault.MountFault.TheVariants.{Length, StoreFault}
use Rattle.ckd_track.specs.Geometry.{IsGeometry, tracks_of, new_geometry}
use Rattle.ckd_image.specs.Layout.{image_length}
use Rattle.ckd_image.specs.Header.{head_of, mount_of, new_header}
use Rattle.ckd_image.specs.Files.{slot_bytes, FailedRead}
use Rattle.ckd_image.specs.Slots.{slots_in, new_slots}

-- what no load and no save changes of the files that hold an image
pub record Lasting : Type 0 where
  -- the bytes of each file before its slots, in order
  pub header : List ℕ
  -- what each file's store held when it was made, in order
  pub origins : List (List ℕ)

-- an image, as the layers above see it
pub record ImageState : Type 0 where
  pub geometry : Geometry
  -- a slot for each track, cylinder by cylinder and head by head
  pub slots : List (List ℕ)
  pub lasting : Lasting
  -- how many calls of the stores failed
  pub failures : ℕ
  -- how many loads and saves were called of the image
  pub loads : ℕ
  pub saves : ℕ

-- a list of files holds the volume of this geometry and these slots: the headers and lengths keep
-- the rules of a mount, and behind the headers stand the slots, one for each track, in order
pub record Holds (files : List (List ℕ)) (g : Geometry) (slots : List (List ℕ)) : Type 0 where
  pub mounts : mount_of files ≡ Ok g
  pub count : length slots ≡ tracks_of g
  pub sizes : All (λ slot. length slot ≡ g.track_size) slots
  pub order : slot_bytes files ≡ concat slots

-- these files hold the image. Their headers say how many slots each one has, so no others do
pub record HoldsImage (files : List (List ℕ)) (i : ImageState) : Type 0 where
  pub holds : Holds files i.geometry i.slots
  pub headers : concat (map (take 512) files) ≡ i.lasting.header

-- what is true of each image
pub record IsImage (i : ImageState) : Type 0 where
  pub files : List (List ℕ)
  pub holds : HoldsImage files i
  pub geometry : IsGeometry i.geometry
  pub count : length i.slots ≡ tracks_of i.geometry
  pub sizes : All (λ slot. length slot ≡ i.geometry.track_size) i.slots

-- the file at a place among those that hold the image, or none behind the last one
pub record IsFileAt (i : ImageState) (place : ℕ) (file : Option (List ℕ)) : Type 0 where
  pub files : List (List ℕ)
  pub holds : HoldsImage files i
  pub is_there : file ≡ slice_get files place

-- the image of this geometry that files hold, as it is first held
abbrev pub image_in : Geometry → (files origins : List (List ℕ)) → (failures : ℕ) → ImageState
image_in g files origins failures = record {
  geometry = g;
  slots = slots_in g.track_size (tracks_of g) (slot_bytes files);
  lasting = record { header = concat (map (take 512) files); origins = origins };
  failures = failures;
  loads = 0;
  saves = 0;
}

-- a mount of a file was refused with this fault, and the store's failures were and are so many: a
-- fault of the store is met only where its header was read, and is counted; any other is the first
-- rule that is broken
abbrev pub MountRefused : MountFault → List ℕ → ℕ → ℕ → Type 0
MountRefused StoreFault file before now = (512 ≤ length file) × (now ≡ before + 1)
MountRefused fault file before now = (mount_of (file ∷ []) ≡ Err fault) × (now ≡ before)

-- a mount of files was refused with this fault, and the failures of each store were and are so many
abbrev pub FilesRefused : MountFault → List (List ℕ) → List ℕ → List ℕ → Type 0
FilesRefused StoreFault files before now = FailedRead (map head_of files) before now
FilesRefused fault files before now = (mount_of files ≡ Err fault) × (now ≡ before)

-- the file of a new volume
abbrev pub new_file : Geometry → List ℕ
new_file g = new_header g.model ++ concat (new_slots g)

-- the geometry of a new image in a store of this length, or why it is not made
abbrev pub format_of : DriveModel → ℕ → ℕ → Result Geometry MountFault
format_of model cylinders len =
    if (cylinders == 0) || nat_lt (image_length (new_geometry model cylinders)) len then Err Length
    else Ok (new_geometry model cylinders)

-- a format was refused with this fault, and the store's failures were and are so many: a fault of
-- the store is met only where the rules allow the new image, and is counted; any other is the rule
-- that is broken
abbrev pub FormatRefused : MountFault → Result Geometry MountFault → ℕ → ℕ → Type 0
FormatRefused StoreFault rules before now = IsOk rules × (now ≡ before + 1)
FormatRefused fault rules before now = (rules ≡ Err fault) × (now ≡ before)

-- a new image of so many cylinders, as it is first held in a store that was made of these bytes
abbrev pub new_image : DriveModel → (cylinders : ℕ) → (origin : List ℕ) → (failures : ℕ) → ImageState
new_image model cylinders origin failures = let g = new_geometry model cylinders in record {
  geometry = g;
  slots = new_slots g;
  lasting = record { header = new_header model; origins = origin ∷ [] };
  failures = failures;
  loads = 0;
  saves = 0;
}
