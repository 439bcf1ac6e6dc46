-- Fields that are written over blanks or zeros, from the last to the first, and read back.
use Rattle.std.proofs.Common.{◌≡◌, ◌∙◌, ap, refl, ℕ, ◌+◌, ◌*◌, ◌/◌, ◌%◌, List, [], ◌∷◌, ◌++◌, ◌≤◌, length, drop, replicate}
use Rattle.std.proofs.Common.{slice_index_or, Some, arith}
use Rattle.std.proofs.lemmas.List.{drop_more, drop_all}
use Rattle.ckd_track.specs.Changes.{overwritten}
use Rattle.ckd_track.specs.declared.model.DriveModel.{DriveModel}
use Rattle.ckd_track.specs.declared.model.DriveModel.TheVariants.{D2311, D2314}
use Rattle.ckd_track.specs.NewVolume.{address}
use Rattle.volume_labels.specs.Labels.{volume_label_name, volume_label_of}
use Rattle.ckd_track.specs.declared.geometries.Geometry.{Geometry}
use Rattle.ckd_track.specs.Model.{heads_of}
use Rattle.new_labels.specs.declared.labels.NewLabel.{NewLabel}
use Rattle.new_labels.specs.Records.{two, characteristics, drive_bytes, contents_head, table_extent, contents_data, record_id, volume_data}
use Rattle.new_labels.specs.Records.{volume_label_read}

pub volume_fields : (serial place owner : List ℕ) → length serial ≡ 6 → length place ≡ 5 → length owner ≡ 10
    → overwritten (overwritten (overwritten (overwritten (replicate 80 0x40) 41 owner) 11 place) 4 serial) 0 volume_label_name
    ≡ volume_label_name ++ (serial ++ (0x40 ∷ place ++ (replicate 25 0x40 ++ (owner ++ replicate 29 0x40))))
volume_fields serial place owner six five ten = rw (six, five, ten) refl

pub contents_fields : (extent drive head : List ℕ) → length extent ≡ 10 → length drive ≡ 14 → length head ≡ 18
    → overwritten (overwritten (overwritten (replicate 96 0) 61 extent) 18 drive) 0 head
    ≡ head ++ (drive ++ (replicate 29 0 ++ (extent ++ replicate 25 0)))
contents_fields extent drive head ten fourteen eighteen = rw (ten, fourteen, eighteen) refl

length-drive : (cylinders : ℕ) (model : DriveModel) → length (two cylinders ++ (two (heads_of model) ++ characteristics model)) ≡ 14
length-drive cylinders D2311 = refl
length-drive cylinders D2314 = refl

-- the block of format 4, in the fields that were written
pub contents_written : (g : Geometry) (l : NewLabel) (now extent drive head : List ℕ)
    → now ≡ overwritten (overwritten (overwritten (replicate 96 0) 61 extent) 18 drive) 0 head
    → extent ≡ table_extent g l → drive ≡ drive_bytes g → head ≡ contents_head g l → now ≡ contents_data g l
contents_written g l now extent drive head written is_extent is_drive is_head =
    rw (written, is_head, is_drive, is_extent)
    (contents_fields (table_extent g l) (drive_bytes g) (contents_head g l) refl (length-drive g.cylinders g.model) refl)

-- the volume label, in the fields that were written
pub volume_written : (g : Geometry) (l : NewLabel) (now place : List ℕ) → length l.serial ≡ 6 → length l.owner ≡ 10
    → now ≡ overwritten (overwritten (overwritten (overwritten (replicate 80 0x40) 41 l.owner) 11 place) 4 l.serial) 0 volume_label_name
    → place ≡ record_id g l.first 1 → now ≡ volume_data g l
volume_written g l now place six ten written is_place =
    rw (written, is_place) (volume_fields l.serial (record_id g l.first 1) l.owner six refl ten)

-- from a place on, the element there and those behind it
one_more : (s rest : List ℕ) (at : ℕ) → at + 1 ≤ length s → drop (at + 1) s ≡ rest → drop at s ≡ slice_index_or s at 0 ∷ rest
one_more s rest at there is = drop_more s at 0 (omega (arith, there)) ∙ ap (λ (t : List ℕ). slice_index_or s at 0 ∷ t) is

pub six_are : (s : List ℕ) → length s ≡ 6
    → s ≡ slice_index_or s 0 0 ∷ slice_index_or s 1 0 ∷ slice_index_or s 2 0 ∷ slice_index_or s 3 0 ∷ slice_index_or s 4 0
    ∷ slice_index_or s 5 0 ∷ []
six_are s six =
    one_more s _ 0 (omega (arith, six)) (one_more s _ 1 (omega (arith, six)) (one_more s _ 2 (omega (arith, six))
    (one_more s _ 3 (omega (arith, six)) (one_more s _ 4 (omega (arith, six)) (one_more s _ 5 (omega (arith, six))
    (drop_all 6 s (omega (arith, six))))))))

pub ten_are : (s : List ℕ) → length s ≡ 10
    → s ≡ slice_index_or s 0 0 ∷ slice_index_or s 1 0 ∷ slice_index_or s 2 0 ∷ slice_index_or s 3 0 ∷ slice_index_or s 4 0
    ∷ slice_index_or s 5 0 ∷ slice_index_or s 6 0 ∷ slice_index_or s 7 0 ∷ slice_index_or s 8 0 ∷ slice_index_or s 9 0 ∷ []
ten_are s ten =
    one_more s _ 0 (omega (arith, ten)) (one_more s _ 1 (omega (arith, ten)) (one_more s _ 2 (omega (arith, ten))
    (one_more s _ 3 (omega (arith, ten)) (one_more s _ 4 (omega (arith, ten)) (one_more s _ 5 (omega (arith, ten))
    (one_more s _ 6 (omega (arith, ten)) (one_more s _ 7 (omega (arith, ten)) (one_more s _ 8 (omega (arith, ten))
    (one_more s _ 9 (omega (arith, ten)) (drop_all 10 s (omega (arith, ten))))))))))))

pub two_bytes : (n : ℕ) → n / 256 * 256 + n % 256 ≡ n
two_bytes n = omega arith

-- The volume label is read whose serial number and whose owner's name have these bytes.
spelled_out : (s o : ℕ → ℕ) (cylinder head : ℕ)
    → volume_label_of (volume_label_name ++ ((s 0 ∷ s 1 ∷ s 2 ∷ s 3 ∷ s 4 ∷ s 5 ∷ []) ++ (0x40 ∷ (address cylinder head ++ 1 ∷ [])
    ++ (replicate 25 0x40 ++ ((o 0 ∷ o 1 ∷ o 2 ∷ o 3 ∷ o 4 ∷ o 5 ∷ o 6 ∷ o 7 ∷ o 8 ∷ o 9 ∷ []) ++ replicate 29 0x40)))))
    ≡ Some (record {
      serial = s 0 ∷ s 1 ∷ s 2 ∷ s 3 ∷ s 4 ∷ s 5 ∷ [];
      contents = record { track = record { cylinder = cylinder; head = head }; number = 1 };
      owner = replicate 4 0x40 ++ (o 0 ∷ o 1 ∷ o 2 ∷ o 3 ∷ o 4 ∷ o 5 ∷ o 6 ∷ o 7 ∷ o 8 ∷ o 9 ∷ []);
    })
spelled_out s o cylinder head = rw (two_bytes cylinder, two_bytes head) refl

pub label_read : (serial owner : List ℕ) (cylinder head : ℕ) → length serial ≡ 6 → length owner ≡ 10
    → volume_label_of (volume_label_name ++ (serial ++ (0x40 ∷ (address cylinder head ++ 1 ∷ [])
    ++ (replicate 25 0x40 ++ (owner ++ replicate 29 0x40)))))
    ≡ Some (record {
      serial = serial;
      contents = record { track = record { cylinder = cylinder; head = head }; number = 1 };
      owner = replicate 4 0x40 ++ owner;
    })
label_read serial owner cylinder head six ten =
    rw (six_are serial six, ten_are owner ten)
    (spelled_out (λ i. slice_index_or serial i 0) (λ i. slice_index_or owner i 0) cylinder head)

pub volume_read : (g : Geometry) (l : NewLabel) → length l.serial ≡ 6 → length l.owner ≡ 10
    → volume_label_of (volume_data g l) ≡ Some (volume_label_read g l)
volume_read g l six ten = label_read l.serial l.owner (l.first / heads_of g.model) (l.first % heads_of g.model) six ten
