-- The header of an image's file in the CKD_P370 layout, and the rules by which one to eight files are mounted.
use Rattle.std.specs.Prelude.{ℕ, ◌+◌, ◌-◌, ◌*◌, ◌/◌, ◌==◌, Bool, false, not, ◌&&◌, ◌||◌, nat_lt, nat_le, if◌then◌else◌, List, [], ◌∷◌, ◌++◌, length, take, map}
use Rattle.std.specs.Prelude.{replicate, slice_index, slice_range, Option, Some, None, Result, Ok, Err, bytes_eq, codes}
use Rattle.byteorder.specs.Endian.{little_number, little_bytes}
use Rattle.ckd_track.specs.declared.model.DriveModel.{DriveModel}
use Rattle.ckd_track.specs.declared.model.DriveModel.TheVariants.{D2311, D2314}
use Rattle.ckd_track.specs.Model.{heads_of, slot_size_of}
use Rattle.ckd_track.specs.declared.geometries.Geometry.{Geometry}
use Rattle.ckd_image.specs.declared.header.FileHeader.{FileHeader}
use Rattle.ckd_image.specs.declared.fault.MountFault.{MountFault}
use Rattle.ckd_image.specs.declared.fault.MountFault.TheVariants.{NotCkdP370, Compressed, DeviceType, Heads, TrackSize, Split, Length}
use Rattle.ckd_track.specs.Geometry.{least_track_size}

-- The fields. Numbers are little-endian.

-- what tells this layout from others
abbrev pub image_id : List ℕ → List ℕ
image_id header = take 8 header

-- the heads of a cylinder
abbrev pub heads_field : List ℕ → ℕ
heads_field header = little_number 4 (slice_range header 8 12)

-- the bytes of each slot
abbrev pub track_size_field : List ℕ → ℕ
track_size_field header = little_number 4 (slice_range header 12 16)

-- which drive it is
abbrev pub device_type_field : List ℕ → ℕ
device_type_field header = slice_index header 16

-- the file's number among those of its image; 0 or 1 in an only one
abbrev pub file_sequence_field : List ℕ → ℕ
file_sequence_field header = slice_index header 17

-- the last cylinder of a file that is not the last of its image; 0 in the last or only one
abbrev pub highest_cylinder_field : List ℕ → ℕ
highest_cylinder_field header = little_number 2 (slice_range header 18 20)

-- the device type names the drive by the last digits of its number
abbrev pub device_type_of : DriveModel → ℕ
device_type_of D2311 = 0x11
device_type_of D2314 = 0x14

-- the drive that a device type names, if there is one
abbrev pub model_of : ℕ → Option DriveModel
model_of device = if device == 0x11 then Some D2311 else (if device == 0x14 then Some D2314 else None)

-- The header of a new image in one file.

-- the drive's heads and track size, its device type, file sequence 0 and highest cylinder 0
abbrev pub fields_behind_id : DriveModel → List ℕ
fields_behind_id model =
    little_bytes 4 (heads_of model)
    ++ (little_bytes 4 (slot_size_of model) ++ (device_type_of model ∷ 0 ∷ little_bytes 2 0))

-- the reserved bytes behind the fields are zeros
abbrev pub new_header : DriveModel → List ℕ
new_header model = codes "CKD_P370" ++ (fields_behind_id model ++ replicate 492 0)

-- The rules on one file.

-- what a mount looks at in a file: the header, and the length
pub record Head : Type 0 where
  pub header : List ℕ
  pub len : ℕ

-- that of a file
abbrev pub head_of : List ℕ → Head
head_of file = record { header = take 512 file; len = length file }

-- that of no file
abbrev pub no_head : Head
no_head = record { header = []; len = 0 }

-- both ids of compressed images and those of shadow images begin so
abbrev pub is_compressed : List ℕ → Bool
is_compressed header = bytes_eq (take 5 header) (codes "CKD_C") || bytes_eq (take 5 header) (codes "CKD_S")

-- what the header says of a drive of this model
abbrev pub on_model : List ℕ → ℕ → Option DriveModel → Result FileHeader MountFault
on_model header len None = Err DeviceType
on_model header len (Some model) =
    let size = track_size_field header in
    if not (heads_field header == heads_of model) then Err Heads
    else (if nat_lt size (least_track_size model) || nat_lt 65536 size then Err TrackSize
    else Ok (record {
      model = model;
      track_size = size;
      sequence = file_sequence_field header;
      highest_cylinder = highest_cylinder_field header;
      len = len;
    }))

-- what the header of a file of this length says, or the first rule on one file that is broken
abbrev pub fields_of : List ℕ → ℕ → Result FileHeader MountFault
fields_of header len =
    if is_compressed header then Err Compressed
    else (if not (bytes_eq (image_id header) (codes "CKD_P370")) then Err NotCkdP370
    else on_model header len (model_of (device_type_field header)))

-- the same of a file; nothing of one below 512 bytes is read
abbrev pub header_of : Head → Result FileHeader MountFault
header_of f = if nat_lt f.len 512 then Err Length else fields_of f.header f.len

-- The rules on all files of an image.

-- this file belongs to the image of the first one, as the n-th
abbrev pub is_part : FileHeader → ℕ → FileHeader → Bool
is_part first n f = (f.sequence == n) && ((device_type_of f.model == device_type_of first.model)
    && (f.track_size == first.track_size))

-- these are the files of the first one's image from the n-th to the last; the one before them has
-- this highest cylinder
abbrev pub are_parts : FileHeader → ℕ → ℕ → List FileHeader → Bool
are_parts first n before [] = false
are_parts first n before (last ∷ []) = is_part first n last && (last.highest_cylinder == 0)
are_parts first n before (f ∷ g ∷ rest) =
    is_part first n f && (nat_lt before f.highest_cylinder && are_parts first (n + 1) f.highest_cylinder (g ∷ rest))

-- an only file may have the sequence 0 or 1; several are numbered from 1 on, and each but the last
-- has its highest cylinder, which rises
abbrev pub are_together : List FileHeader → Bool
are_together [] = false
are_together (only ∷ []) = nat_le only.sequence 1 && (only.highest_cylinder == 0)
are_together (first ∷ second ∷ rest) = are_parts first 1 0 (first ∷ second ∷ rest)

-- the cylinders up to those of the last file, where it is a header and 1 or more of them, of this
-- many bytes each, and with those before it they are at most 65,535
abbrev pub cylinders_of : ℕ → ℕ → ℕ → Option ℕ
cylinders_of size before len =
    let cylinders = (len - 512) / size in
    if (512 + cylinders * size == len) && (nat_le 1 cylinders && nat_lt (before + cylinders) 65536)
    then Some (before + cylinders) else None

-- the cylinders of all files, where each file but the last holds exactly those behind the file
-- before it up to its highest one
abbrev pub cylinders_in : ℕ → ℕ → List FileHeader → Option ℕ
cylinders_in size before [] = None
cylinders_in size before (last ∷ []) = cylinders_of size before last.len
cylinders_in size before (f ∷ g ∷ rest) =
    if f.len == 512 + (f.highest_cylinder + 1 - before) * size
    then cylinders_in size (f.highest_cylinder + 1) (g ∷ rest) else None

-- the geometry of this drive with these cylinders, where there are such
abbrev pub with_cylinders : DriveModel → ℕ → Option ℕ → Result Geometry MountFault
with_cylinders model size None = Err Length
with_cylinders model size (Some cylinders) =
    Ok (record { model = model; cylinders = cylinders; track_size = size })

-- the geometry of the image in these files, or the first rule on all of them that is broken
abbrev pub volume_of : List FileHeader → Result Geometry MountFault
volume_of [] = Err Split
volume_of (first ∷ rest) =
    if not (are_together (first ∷ rest)) then Err Split
    else with_cylinders first.model first.track_size
    (cylinders_in (heads_of first.model * first.track_size) 0 (first ∷ rest))

-- Mount.

-- the first fault of two steps, or what the second makes of the first
abbrev pub then_with : {A B : Type 0} → Result A MountFault → (A → Result B MountFault) → Result B MountFault
then_with (Ok a) next = next a
then_with (Err fault) next = Err fault

-- what the headers of these files say, behind what was read of the files before them, or the first
-- rule on one file that is broken
abbrev pub headers_of : List FileHeader → List Head → Result (List FileHeader) MountFault
headers_of read [] = Ok read
headers_of read (f ∷ rest) = then_with (header_of f) (λ header. headers_of (read ++ header ∷ []) rest)

-- these headers and lengths are accepted as those of the files of one image, in order, and give its
-- geometry; or the first rule that is broken
abbrev pub accepted : List Head → Result Geometry MountFault
accepted heads = then_with (headers_of [] heads) volume_of

-- the same of whole files
abbrev pub mount_of : List (List ℕ) → Result Geometry MountFault
mount_of files = accepted (map head_of files)
