-- What the headers of files that are mounted say.
use Rattle.std.proofs.Common.{◌≡◌, ℕ, ◌+◌, ◌-◌, ◌*◌, ◌/◌, ◌<◌, ◌≤◌, Bool, true, false, not, ◌&&◌, ◌||◌, ◌==◌, nat_lt, nat_le, if◌then◌else◌}
use Rattle.std.proofs.Common.{List, [], ◌∷◌, ◌++◌, length, take, map, Option, Some, None, Result, Ok, Err, bytes_eq, codes, refl, sym, ap}
use Rattle.std.proofs.Common.{◌∙◌, subst, lit<, lit≤, arith, length-append, length-drop}
use Rattle.std.proofs.Math.Nat.{zero-add, zero-mul, mul_assoc, mul-div_cancel, add-mul, mul-le-mul_right}
use Rattle.std.proofs.lemmas.Bool.{and_parts, or_parts, not-false, eqb-true, ltb-false, ltb-true, leb-true, eq-eqb, le-leb, lt-ltb, le-ltb}
use Rattle.std.proofs.lemmas.List.{append_assoc, append-nil}
use Rattle.std.specs.List.{AllByRecursion}
use Rattle.ckd_track.specs.declared.model.DriveModel.{DriveModel}
use Rattle.ckd_track.specs.declared.model.DriveModel.TheVariants.{D2311, D2314}
use Rattle.ckd_track.specs.Model.{heads_of}
use Rattle.ckd_track.specs.declared.geometries.Geometry.{Geometry}
use Rattle.ckd_image.specs.declared.header.FileHeader.{FileHeader}
use Rattle.ckd_image.specs.declared.fault.MountFault.{MountFault}
use Rattle.ckd_image.specs.declared.fault.MountFault.TheVariants.{NotCkdP370, Compressed, Heads, TrackSize, Split, Length, StoreFault}
use Rattle.ckd_track.specs.Geometry.{IsGeometry, tracks_of, least_track_size, new_geometry}
use Rattle.ckd_image.specs.Layout.{image_length}
use Rattle.ckd_image.specs.Header.{image_id, heads_field, track_size_field, device_type_field, file_sequence_field, highest_cylinder_field}
use Rattle.ckd_image.specs.Header.{model_of, Head, head_of, is_compressed, on_model, fields_of, header_of, is_part, are_parts, are_together}
use Rattle.ckd_image.specs.Header.{cylinders_of, cylinders_in, with_cylinders, volume_of, then_with, headers_of, mount_of, new_header}
use Rattle.ckd_image.specs.Files.{slot_bytes, HoldsWhole}
use Rattle.ckd_image.specs.Image.{MountRefused, FilesRefused}

-- files that are mounted have a geometry, and hold its tracks
pub record FitsFiles (g : Geometry) (files : List (List ℕ)) : Type 0 where
  pub is_geometry : IsGeometry g
  pub whole : AllByRecursion (HoldsWhole g.track_size) files
  pub is_length : length (slot_bytes files) ≡ tracks_of g * g.track_size

-- what is not refused is answered
past : {A E : Type 0} (refused : Bool) (e : E) (r : Result A E) (g : A) → (if refused then Err e else r) ≡ Ok g → (refused ≡ false)
    × (r ≡ Ok g)
past true e r g h = cc
past false e r g h = (refl, h)

kept_if : (b : Bool) (o : Option ℕ) (n : ℕ) → (if b then o else None) ≡ Some n → (b ≡ true) × (o ≡ Some n)
kept_if true o n e = (refl, e)
kept_if false o n e = cc

-- One file.

-- what is known of a header that keeps the rules on one file
record IsHeader (h : FileHeader) (len : ℕ) : Type 0 where
  pub is_len : h.len ≡ len
  pub room : least_track_size h.model ≤ h.track_size
  pub limit : h.track_size ≤ 65536

on_model_header : (header : List ℕ) (len : ℕ) (o : Option DriveModel) (h : FileHeader) → on_model header len o ≡ Ok h → IsHeader h len
on_model_header header len None h e = cc
on_model_header header len (Some model) h e =
    let size = track_size_field header in
    let fields : FileHeader = record {
      model = model;
      track_size = size;
      sequence = file_sequence_field header;
      highest_cylinder =
          highest_cylinder_field header;
      len = len;
    } in
    let misfit = nat_lt size (least_track_size model) || nat_lt 65536 size in
    let a = past (not (heads_field header == heads_of model)) Heads (if misfit then Err TrackSize else Ok fields) h e in
    let b = past misfit TrackSize (Ok fields) h a.1 in
    let sizes = or_parts (nat_lt size (least_track_size model)) (nat_lt 65536 size) b.0 in
    let is : fields ≡ h = cc in
    subst (λ (k : FileHeader). IsHeader k len) is (record {
      is_len = refl;
      room = ltb-false size (least_track_size model) sizes.0;
      limit =
          ltb-false 65536 size sizes.1;
    })

header_is : (f : Head) (h : FileHeader) → header_of f ≡ Ok h → IsHeader h f.len
header_is f h e =
    let rest = on_model f.header f.len (model_of (device_type_field f.header)) in
    let a = past (nat_lt f.len 512) Length (fields_of f.header f.len) h e in
    let b = past (is_compressed f.header) Compressed (if not (bytes_eq (image_id f.header) (codes "CKD_P370")) then Err NotCkdP370
    else rest) h a.1 in
    let d = past (not (bytes_eq (image_id f.header) (codes "CKD_P370"))) NotCkdP370 rest h b.1 in
    on_model_header f.header f.len (model_of (device_type_field f.header)) h d.1

-- All files.

abbrev AreHeaders : List FileHeader → List (List ℕ) → Type 0
AreHeaders [] [] = Unit {0}
AreHeaders (h ∷ hs) (f ∷ fs) = IsHeader h (length f) × AreHeaders hs fs
AreHeaders _ _ = ⊥

record AreRead (read : List FileHeader) (files : List (List ℕ)) (headers : List FileHeader) : Type 0 where
  pub rest : List FileHeader
  pub is : headers ≡ read ++ rest
  pub those : AreHeaders rest files

read_by : (o : Result FileHeader MountFault) (read headers : List FileHeader) (file : List ℕ) (files : List (List ℕ))
    → header_of (head_of file) ≡ o → then_with o (λ h. headers_of (read ++ h ∷ []) (map head_of files)) ≡ Ok headers
    → ((more : List FileHeader) → headers_of more (map head_of files) ≡ Ok headers → AreRead more files headers)
    → AreRead read (file ∷ files) headers
read_by (Err e) read headers file files found h next = cc
read_by (Ok header) read headers file files found h next =
    let r = next (read ++ header ∷ []) h in
    record {
      rest = header ∷ r.rest;
      is = r.is ∙ append_assoc read (header ∷ []) r.rest;
      those = (header_is (head_of file) header found, r.those);
    }

all_read : (files : List (List ℕ)) (read headers : List FileHeader) → headers_of read (map head_of files) ≡ Ok headers
    → AreRead read files headers
all_read [] read headers h = record { rest = []; is = (let same : read ≡ headers = cc in sym same ∙ sym (append-nil read)); those = tt }
all_read (file ∷ files) read headers h = read_by (header_of (head_of file)) read headers file files refl h
    (λ more e. all_read files more headers e)

-- one file that holds so many cylinders is whole
few_heads : (model : DriveModel) → heads_of model ≤ 20
few_heads D2311 = lit≤ tt
few_heads D2314 = lit≤ tt

one_whole : (model : DriveModel) (size c : ℕ) (file : List ℕ) → c < 65536 → length file ≡ 512 + c * (heads_of model * size)
    → HoldsWhole size file
one_whole model size c file most long = record {
  tracks = c * heads_of model;
  most = (let heads = few_heads model in let a : c * heads_of model ≤ 65536 * heads_of model =
      mul-le-mul_right {m = c} {n = 65536} (heads_of model) (omega arith) in omega arith);
  is_length = long ∙ ap (λ (k : ℕ). 512 + k) (sym (mul_assoc c (heads_of model) size));
}

-- files that hold the cylinders up to this total, behind so many in the files before them
record Joined (model : DriveModel) (size before total : ℕ) (files : List (List ℕ)) : Type 0 where
  pub above : before < total
  pub most : total < 65536
  pub whole : AllByRecursion (HoldsWhole size) files
  pub bytes : before * (heads_of model * size) + length (slot_bytes files) ≡ total * (heads_of model * size)

-- one more file, which holds c cylinders of so many bytes, before those that hold the others
more_bytes : (bytes before c total : ℕ) (file : List ℕ) (files : List (List ℕ)) → length file ≡ 512 + c * bytes
    → (before + c) * bytes + length (slot_bytes files) ≡ total * bytes
    → before * bytes + length (slot_bytes (file ∷ files)) ≡ total * bytes
more_bytes bytes before c total file files long all = simp (length-append, length-drop) (omega (arith, add-mul before c bytes, long, all))

joined_last : (model : DriveModel) (size before total : ℕ) (h : FileHeader) (file : List ℕ) → h.len ≡ length file
    → cylinders_of (heads_of model * size) before h.len ≡ Some total → Joined model size before total (file ∷ [])
joined_last model size before total h file len e =
    let bytes = heads_of model * size in
    let c = (h.len - 512) / bytes in
    let it = kept_if ((512 + c * bytes == h.len) && (nat_le 1 c && nat_lt (before + c) 65536)) (Some (before + c)) total e in
    let parts = and_parts (512 + c * bytes == h.len) (nat_le 1 c && nat_lt (before + c) 65536) it.0 in
    let rest = and_parts (nat_le 1 c) (nat_lt (before + c) 65536) parts.1 in
    let long : length file ≡ 512 + c * bytes = sym len ∙ sym (eqb-true (512 + c * bytes) h.len parts.0) in
    let some = leb-true 1 c rest.0 in
    let limit = ltb-true (before + c) 65536 rest.1 in
    let is : before + c ≡ total = cc in
    record {
      above = omega arith;
      most = omega arith;
      whole = (one_whole model size c file (omega arith) long, tt);
      bytes =
          more_bytes bytes before c total file [] long (rw is (omega arith));
    }

-- a file before others; it names where the file begins, where the others begin and where all end, since it joins them
joined_next : (model : DriveModel) (size before next total : ℕ) (file : List ℕ) (files : List (List ℕ)) → before ≤ next
    → length file ≡ 512 + (next - before) * (heads_of model * size) → Joined model size next total files
    → Joined model size before total (file ∷ files)
joined_next model size before next total file files in_order long j =
    let above = j.above in
    let most = j.most in
    let split : before + (next - before) ≡ next = omega arith in
    record {
      above = omega arith;
      most = most;
      whole = (one_whole model size (next - before) file (omega arith) long, j.whole);
      bytes =
          more_bytes (heads_of model * size) before (next - before) total file files long (rw split j.bytes);
    }

-- where the parts of a volume go on: the number of the part that comes next, the highest cylinder of the one before it, and
-- how many cylinders the files before it hold
record NextPart : Type 0 where
  pub number : ℕ
  pub previous : ℕ
  pub before : ℕ

-- files in parts, by their headers; it goes along both lists at once
joined : (first : FileHeader) (part : NextPart) (model : DriveModel) (size total : ℕ) (headers : List FileHeader) (files : List (List ℕ))
    → part.before ≤ part.previous + 1 → are_parts first part.number part.previous headers ≡ true → AreHeaders headers files
    → cylinders_in (heads_of model * size) part.before headers ≡ Some total → Joined model size part.before total files
joined first part model size total [] files order parts are found = cc
joined first part model size total (last ∷ []) (file ∷ []) order parts are found =
    joined_last model size part.before total last file are.0.is_len found
joined first part model size total (h ∷ g ∷ rest) (file ∷ files) order parts are found =
    let next : NextPart = record { number = part.number + 1; previous = h.highest_cylinder; before = h.highest_cylinder + 1 } in
    let behind = are_parts first next.number next.previous (g ∷ rest) in
    let a = and_parts (is_part first part.number h) (nat_lt part.previous h.highest_cylinder && behind) parts in
    let b = and_parts (nat_lt part.previous h.highest_cylinder) behind a.1 in
    let up = ltb-true part.previous h.highest_cylinder b.0 in
    let it = kept_if (h.len == 512 + (next.before - part.before) * (heads_of model * size))
    (cylinders_in (heads_of model * size) next.before (g ∷ rest)) total found in
    joined_next model size part.before next.before total file files (omega arith) (sym are.0.is_len
    ∙ eqb-true h.len (512 + (next.before - part.before) * (heads_of model * size)) it.0)
    (joined first next model size total (g ∷ rest) files (omega arith) b.1 are.1 it.1)
joined first part model size total (h ∷ rest) [] order parts are found = absurd are
joined first part model size total (h ∷ []) (file ∷ more ∷ files) order parts are found = absurd are.1

together : (model : DriveModel) (size total : ℕ) (headers : List FileHeader) (files : List (List ℕ)) → are_together headers ≡ true
    → AreHeaders headers files → cylinders_in (heads_of model * size) 0 headers ≡ Some total → Joined model size 0 total files
together model size total [] files is are found = cc
together model size total (only ∷ []) (file ∷ []) is are found = joined_last model size 0 total only file are.0.is_len found
together model size total (first ∷ second ∷ rest) files is are found =
    joined first (record { number = 1; previous = 0; before = 0 }) model size total (first ∷ second ∷ rest) files (omega arith) is are found
together model size total (only ∷ []) [] is are found = absurd are
together model size total (only ∷ []) (file ∷ more ∷ files) is are found = absurd are.1

volume_fits : (headers : List FileHeader) (files : List (List ℕ)) (g : Geometry) → AreHeaders headers files → volume_of headers ≡ Ok g
    → FitsFiles g files
volume_fits [] files g are e = cc
volume_fits (first ∷ rest) [] g are e = absurd are
volume_fits (first ∷ rest) (f ∷ fs) g are e =
    let all = cylinders_in (heads_of first.model * first.track_size) 0 (first ∷ rest) in
    let a = past (not (are_together (first ∷ rest))) Split (with_cylinders first.model first.track_size all) g e in
    by (not-false (are_together (first ∷ rest)) a.0) all refl a.1
  where
    by : are_together (first ∷ rest) ≡ true → (o : Option ℕ) → cylinders_in (heads_of first.model * first.track_size) 0 (first ∷ rest) ≡ o
        → with_cylinders first.model first.track_size o ≡ Ok g → FitsFiles g (f ∷ fs)
    by is None found e = cc
    by is (Some n) found e =
        let j = together first.model first.track_size n (first ∷ rest) (f ∷ fs) is are found in
        let above = j.above in
        let same : record { model = first.model; cylinders = n; track_size = first.track_size } ≡ g = cc in
        subst (λ (k : Geometry). FitsFiles k (f ∷ fs)) same (record {
          is_geometry = record { cylinders = omega arith; room = are.0.room; limit = are.0.limit };
          whole = j.whole;
          is_length = sym (zero-add (length (slot_bytes (f ∷ fs)))) ∙ rw zero-mul at j.bytes
              ∙ sym (mul_assoc n (heads_of first.model) first.track_size);
        })

-- what is mounted has a geometry, and holds its tracks
pub mount_fits : (files : List (List ℕ)) (g : Geometry) → mount_of files ≡ Ok g → FitsFiles g files
mount_fits files g e = by (headers_of [] (map head_of files)) refl e
  where
    by : (o : Result (List FileHeader) MountFault) → headers_of [] (map head_of files) ≡ o → then_with o volume_of ≡ Ok g
        → FitsFiles g files
    by (Err fault) found e = cc
    by (Ok headers) found e =
        let r = all_read files [] headers found in
        volume_fits headers files g (subst (λ (hs : List FileHeader). AreHeaders hs files) (sym r.is) r.those) e

pub size_some : (files : List (List ℕ)) (g : Geometry) → mount_of files ≡ Ok g → 0 < g.track_size
size_some files g e = let room = (mount_fits files g e).is_geometry.room in omega arith

pub mounts_by : (files : List (List ℕ)) (headers : List FileHeader) (g : Geometry) → headers_of [] (map head_of files) ≡ Ok headers
    → volume_of headers ≡ Ok g → mount_of files ≡ Ok g
mounts_by files headers g found e = ap (λ o. then_with o volume_of) found ∙ e

-- A refusal.

rules_alone : (headers : List FileHeader) → volume_of headers ≡ Err StoreFault → ⊥
rules_alone [] e = cc
rules_alone (first ∷ rest) e = by (not (are_together (first ∷ rest))) (cylinders_in (heads_of first.model * first.track_size) 0
    (first ∷ rest)) e
  where
    by : (b : Bool) (o : Option ℕ) → (if b then Err Split else with_cylinders first.model first.track_size o) ≡ Err StoreFault → ⊥
    by true o e = cc
    by false None e = cc
    by false (Some n) e = cc

pub one_refused : (file : List ℕ) (before now : ℕ) (header : FileHeader) (fault : MountFault) → header_of (head_of file) ≡ Ok header
    → volume_of (header ∷ []) ≡ Err fault → now ≡ before → MountRefused fault file before now
one_refused file before now header StoreFault found refused same = absurd (rules_alone (header ∷ []) refused)
one_refused file before now header fault found refused same = (
  ap (λ o. then_with (then_with o (λ h. Ok (h ∷ []))) volume_of) found
      ∙ refused,
  same,
)

pub files_refused : (files : List (List ℕ)) (before now : List ℕ) (headers : List FileHeader) (fault : MountFault)
    → headers_of [] (map head_of files) ≡ Ok headers → volume_of headers ≡ Err fault → now ≡ before → FilesRefused fault files before now
files_refused files before now headers StoreFault found refused same = absurd (rules_alone headers refused)
files_refused files before now headers fault found refused same = (ap (λ o. then_with o volume_of) found ∙ refused, same)

-- A new file is mounted.

cylinders_found : (size cylinders : ℕ) → 0 < size → 1 ≤ cylinders → cylinders < 65536 → cylinders_of size 0 (512 + cylinders * size)
    ≡ Some cylinders
cylinders_found size cylinders some least most =
    let behind : 512 + cylinders * size - 512 ≡ cylinders * size = omega arith in
    rw (
      behind,
      mul-div_cancel cylinders some,
      zero-add cylinders,
      eq-eqb (512 + cylinders * size) (512 + cylinders * size) refl,
      le-leb 1 cylinders least,
      lt-ltb cylinders 65536 most,
    ) refl

pub new_file_mounts : (model : DriveModel) (cylinders : ℕ) (file : List ℕ) → 1 ≤ cylinders → cylinders < 65536
    → take 512 file ≡ new_header model → length file ≡ image_length (new_geometry model cylinders)
    → mount_of (file ∷ []) ≡ Ok (new_geometry model cylinders)
new_file_mounts D2311 cylinders file least most header long =
    let enough : nat_lt (length file) 512 ≡ false = le-ltb (length file) 512 (omega arith) in
    rw (enough, header, long, mul_assoc cylinders 10 4096) (ap (with_cylinders D2311 4096) (cylinders_found 40960 cylinders
    (lit< tt) least most))
new_file_mounts D2314 cylinders file least most header long =
    let enough : nat_lt (length file) 512 ≡ false = le-ltb (length file) 512 (omega arith) in
    rw (enough, header, long, mul_assoc cylinders 20 7680) (ap (with_cylinders D2314 7680) (cylinders_found 153600 cylinders
    (lit< tt) least most))
