-- The files that hold an image: their headers say how long each one is, so no others do.
use Rattle.std.proofs.Common.{◌≡◌, ◌∙◌, ℕ, ◌+◌, ◌-◌, ◌*◌, ◌/◌, ◌≤◌, Bool, true, false, not, ◌&&◌, ◌||◌, ◌==◌, nat_lt, nat_le, if◌then◌else◌}
use Rattle.std.proofs.Common.{List, [], ◌∷◌, ◌++◌, length, take, drop, map, replicate, Option, Some, None, Result, Ok, Err, bytes_eq, codes}
use Rattle.std.proofs.Common.{refl, sym, ap, subst, arith, length-append}
use Rattle.std.proofs.lemmas.Bool.{and_parts, eqb-true}
use Rattle.std.proofs.lemmas.List.{append_assoc, append-nil, length-map, length-take-le, length-drop, take-append-drop}
use Rattle.std.proofs.Math.Seq.{take-append_seam, drop-append_seam}
use Rattle.std.specs.List.{AllByRecursion, concat}
use Rattle.ckd_track.specs.declared.model.DriveModel.{DriveModel}
use Rattle.ckd_track.specs.declared.geometries.Geometry.{Geometry}
use Rattle.ckd_track.specs.Geometry.{least_track_size}
use Rattle.ckd_track.specs.Model.{heads_of}
use Rattle.ckd_image.specs.declared.fault.MountFault.{MountFault}
use Rattle.ckd_image.specs.declared.fault.MountFault.TheVariants.{NotCkdP370, Compressed, Heads, TrackSize, Split, Length}
use Rattle.ckd_image.specs.Files.{HoldsWhole}
use Rattle.ckd_image.specs.Header.{image_id, heads_field, track_size_field, device_type_field, file_sequence_field}
use Rattle.ckd_image.specs.Header.{highest_cylinder_field}
use Rattle.ckd_image.specs.Header.{model_of, no_head, head_of, is_compressed, on_model, fields_of, header_of}
use Rattle.ckd_image.specs.Header.{are_together, cylinders_in, with_cylinders}
use Rattle.ckd_image.specs.Header.{volume_of, then_with, headers_of, mount_of}
use Rattle.ckd_image.specs.Image.{ImageState, HoldsImage}
use Rattle.ckd_image.proofs.MountLemmas.{mount_fits}

-- what is read of a header
abbrev inside : {A E : Type 0} → Result A E → Type 0
inside {A} r = A

abbrev Header : Type 0
Header = inside (header_of no_head)

-- what is not refused is answered
past : {A : Type 0} (refused : Bool) (e : MountFault) (r : Result A MountFault) (g : A) → (if refused then Err e else r) ≡ Ok g → r ≡ Ok g
past true e r g h = cc
past false e r g h = h

kept_if : (b : Bool) (o : Option ℕ) (n : ℕ) → (if b then o else None) ≡ Some n → (b ≡ true) × (o ≡ Some n)
kept_if true o n e = (refl, e)
kept_if false o n e = cc

-- One file.

-- the highest cylinder that the header of a file has
abbrev highest : List ℕ → ℕ
highest file = highest_cylinder_field (take 512 file)

-- what was read of a file
record IsRead (h : Header) (file : List ℕ) : Type 0 where
  pub len : h.len ≡ length file
  pub last : h.highest_cylinder ≡ highest file

on_model_read : (file : List ℕ) (o : Option DriveModel) (h : Header) → on_model (take 512 file) (length file) o ≡ Ok h → IsRead h file
on_model_read file None h e = cc
on_model_read file (Some model) h e =
    let header = take 512 file in
    let size = track_size_field header in
    let fields : Header = record {
      model = model;
      track_size = size;
      sequence = file_sequence_field header;
      highest_cylinder = highest_cylinder_field header;
      len = length file;
    } in
    let misfit = nat_lt size (least_track_size model) || nat_lt 65536 size in
    let a = past (not (heads_field header == heads_of model)) Heads (if misfit then Err TrackSize else Ok fields) h e in
    let b = past misfit TrackSize (Ok fields) h a in
    let is : fields ≡ h = cc in
    subst (λ (k : Header). IsRead k file) is (record { len = refl; last = refl })

one_read : (file : List ℕ) (h : Header) → header_of (head_of file) ≡ Ok h → IsRead h file
one_read file h e =
    let header = take 512 file in
    let model = model_of (device_type_field header) in
    let other = not (bytes_eq (image_id header) (codes "CKD_P370")) in
    let rest = on_model header (length file) model in
    let a = past (nat_lt (length file) 512) Length (fields_of header (length file)) h e in
    let b = past (is_compressed header) Compressed (if other then Err NotCkdP370 else rest) h a in
    on_model_read file model h (past other NotCkdP370 rest h b)

-- All files.

abbrev AreRead : List Header → List (List ℕ) → Type 0
AreRead [] [] = Unit {0}
AreRead (h ∷ hs) (f ∷ fs) = IsRead h f × AreRead hs fs
AreRead _ _ = ⊥

record Reads (read : List Header) (files : List (List ℕ)) (headers : List Header) : Type 0 where
  pub rest : List Header
  pub is : headers ≡ read ++ rest
  pub those : AreRead rest files

read_by : (o : Result Header MountFault) (read headers : List Header) (file : List ℕ) (files : List (List ℕ))
    → header_of (head_of file) ≡ o → then_with o (λ h. headers_of (read ++ h ∷ []) (map head_of files)) ≡ Ok headers
    → ((more : List Header) → headers_of more (map head_of files) ≡ Ok headers → Reads more files headers)
    → Reads read (file ∷ files) headers
read_by (Err e) read headers file files found h next = cc
read_by (Ok header) read headers file files found h next =
    let r = next (read ++ header ∷ []) h in
    record {
      rest = header ∷ r.rest;
      is = r.is ∙ append_assoc read (header ∷ []) r.rest;
      those = (one_read file header found, r.those);
    }

all_read : (files : List (List ℕ)) (read headers : List Header) → headers_of read (map head_of files) ≡ Ok headers
    → Reads read files headers
all_read [] read headers h = record { rest = []; is = (let same : read ≡ headers = cc in sym same ∙ sym (append-nil read)); those = tt }
all_read (file ∷ files) read headers h =
    read_by (header_of (head_of file)) read headers file files refl h (λ more e. all_read files more headers e)

-- how long files are, by the highest cylinders in their headers, of so many bytes a cylinder and so many cylinders in all
lengths_by : (size before total : ℕ) → List ℕ → List ℕ
lengths_by size before total [] = []
lengths_by size before total (n ∷ []) = (512 + (total - before) * size) ∷ []
lengths_by size before total (n ∷ m ∷ rest) = (512 + (n + 1 - before) * size) ∷ lengths_by size (n + 1) total (m ∷ rest)

by_headers : (size before total : ℕ) (headers : List Header) (files : List (List ℕ)) → AreRead headers files
    → cylinders_in size before headers ≡ Some total → map length files ≡ lengths_by size before total (map highest files)
unfolding lengths_by
by_headers size before total [] files are e = cc
by_headers size before total (h ∷ []) [] are e = absurd are
by_headers size before total (h ∷ []) (f ∷ []) are e =
    let c = (h.len - 512) / size in
    let fits = nat_le 1 c && nat_lt (before + c) 65536 in
    let it = kept_if ((512 + c * size == h.len) && fits) (Some (before + c)) total e in
    let long = eqb-true (512 + c * size) h.len (and_parts (512 + c * size == h.len) fits it.0).0 in
    let some = it.1 in
    let is : before + c ≡ total = cc in
    let count : c ≡ total - before = omega arith in
    ap (λ n. n ∷ []) (sym are.0.len ∙ sym long ∙ ap (λ n. 512 + n * size) count)
by_headers size before total (h ∷ []) (f ∷ g ∷ files) are e = absurd are.1
by_headers size before total (h ∷ i ∷ hs) [] are e = absurd are
by_headers size before total (h ∷ i ∷ hs) (f ∷ []) are e = absurd are.1
by_headers size before total (h ∷ i ∷ hs) (f ∷ g ∷ files) are e =
    let next = h.highest_cylinder + 1 in
    let more = map highest (g ∷ files) in
    let it = kept_if (h.len == 512 + (next - before) * size) (cylinders_in size next (i ∷ hs)) total e in
    let long = sym are.0.len ∙ eqb-true h.len (512 + (next - before) * size) it.0 in
    let rest = by_headers size next total (i ∷ hs) (g ∷ files) are.1 it.1 in
    subst (λ n. length f ∷ map length (g ∷ files) ≡ (512 + (n + 1 - before) * size) ∷ lengths_by size (n + 1) total more) are.0.last
    (ap (λ n. n ∷ map length (g ∷ files)) long ∙ ap (λ ns. (512 + (next - before) * size) ∷ ns) rest)

abbrev AreLong : Geometry → List (List ℕ) → Type 0
AreLong g files = map length files ≡ lengths_by (heads_of g.model * g.track_size) 0 g.cylinders (map highest files)

volume_long : (headers : List Header) (files : List (List ℕ)) (g : Geometry) → AreRead headers files → volume_of headers ≡ Ok g
    → AreLong g files
volume_long [] files g are e = cc
volume_long (first ∷ rest) files g are e =
    let all = cylinders_in (heads_of first.model * first.track_size) 0 (first ∷ rest) in
    by all refl (past (not (are_together (first ∷ rest))) Split (with_cylinders first.model first.track_size all) g e)
  where
    by : (o : Option ℕ) → cylinders_in (heads_of first.model * first.track_size) 0 (first ∷ rest) ≡ o
        → with_cylinders first.model first.track_size o ≡ Ok g → AreLong g files
    by None found e = cc
    by (Some n) found e =
        let same : record { model = first.model; cylinders = n; track_size = first.track_size } ≡ g = cc in
        subst (λ (k : Geometry). AreLong k files) same
        (by_headers (heads_of first.model * first.track_size) 0 n (first ∷ rest) files are found)

mounted_long : (files : List (List ℕ)) (g : Geometry) → mount_of files ≡ Ok g → AreLong g files
mounted_long files g e = by (headers_of [] (map head_of files)) refl e
  where
    by : (o : Result (List Header) MountFault) → headers_of [] (map head_of files) ≡ o → then_with o volume_of ≡ Ok g → AreLong g files
    by (Err fault) found e = cc
    by (Ok headers) found e =
        let r = all_read files [] headers found in
        volume_long headers files g (subst (λ (hs : List Header). AreRead hs files) (sym r.is) r.those) e

-- Lists of pieces.

pieces : (xs ys : List (List ℕ)) → map length xs ≡ map length ys → concat xs ≡ concat ys → xs ≡ ys
pieces [] [] e h = refl
pieces [] (y ∷ ys) e h = cc
pieces (x ∷ xs) [] e h = cc
pieces (x ∷ xs) (y ∷ ys) e h =
    let long : length x ≡ length y = cc in
    let rest : map length xs ≡ map length ys = cc in
    let first : x ≡ y = sym (take-append_seam x (concat xs)) ∙ ap (take (length x)) h
    ∙ ap (λ n. take n (y ++ concat ys)) long ∙ take-append_seam y (concat ys) in
    let others : concat xs ≡ concat ys = sym (drop-append_seam x (concat xs)) ∙ ap (drop (length x)) h
    ∙ ap (λ n. drop n (y ++ concat ys)) long ∙ drop-append_seam y (concat ys) in
    ap (λ z. z ∷ xs) first ∙ ap (λ zs. y ∷ zs) (pieces xs ys rest others)

-- the headers of whole files are as long as each other
heads_long : (size : ℕ) (files : List (List ℕ)) → AllByRecursion (HoldsWhole size) files
    → map length (map (take 512) files) ≡ replicate (length files) 512
heads_long size [] all = refl
heads_long size (f ∷ files) all =
    let long = all.0.is_length in
    ap (λ n. n ∷ map length (map (take 512) files)) (length-take-le 512 f (omega arith)) ∙ ap (λ ns. 512 ∷ ns) (heads_long size files all.1)

heads_count : (size : ℕ) (files : List (List ℕ)) → AllByRecursion (HoldsWhole size) files
    → length (concat (map (take 512) files)) ≡ length files * 512
heads_count size [] all = refl
heads_count size (f ∷ files) all =
    let long = all.0.is_length in
    let first = length-take-le 512 f (omega arith) in
    let rest = heads_count size files all.1 in
    length-append (take 512 f) (concat (map (take 512) files)) ∙ omega arith

behind_long : (xs ys : List (List ℕ)) → map length xs ≡ map length ys → map length (map (drop 512) xs) ≡ map length (map (drop 512) ys)
behind_long [] [] e = refl
behind_long [] (y ∷ ys) e = cc
behind_long (x ∷ xs) [] e = cc
behind_long (x ∷ xs) (y ∷ ys) e =
    let long : length x ≡ length y = cc in
    let rest : map length xs ≡ map length ys = cc in
    let first = length-drop 512 x ∙ ap (λ n. n - 512) long ∙ sym (length-drop 512 y) in
    ap (λ n. n ∷ map length (map (drop 512) xs)) first ∙ ap (λ ns. length (drop 512 y) ∷ ns) (behind_long xs ys rest)

glued : (xs ys : List (List ℕ)) → map (take 512) xs ≡ map (take 512) ys → map (drop 512) xs ≡ map (drop 512) ys → xs ≡ ys
glued [] [] e h = refl
glued [] (y ∷ ys) e h = cc
glued (x ∷ xs) [] e h = cc
glued (x ∷ xs) (y ∷ ys) e h =
    let front : take 512 x ≡ take 512 y = cc in
    let back : drop 512 x ≡ drop 512 y = cc in
    let fronts : map (take 512) xs ≡ map (take 512) ys = cc in
    let backs : map (drop 512) xs ≡ map (drop 512) ys = cc in
    let first : x ≡ y = sym (take-append-drop 512 x) ∙ ap (λ zs. zs ++ drop 512 x) front ∙ ap (λ zs. take 512 y ++ zs) back
    ∙ take-append-drop 512 y in
    ap (λ z. z ∷ xs) first ∙ ap (λ zs. y ∷ zs) (glued xs ys fronts backs)

-- files that hold an image are the same as any others that do
pub only : (xs ys : List (List ℕ)) (i : ImageState) → HoldsImage xs i → HoldsImage ys i → xs ≡ ys
only xs ys i a b =
    let g = i.geometry in
    let size = g.track_size in
    let xs_whole = (mount_fits xs g a.holds.mounts).whole in
    let ys_whole = (mount_fits ys g b.holds.mounts).whole in
    let headers = a.headers ∙ sym b.headers in
    let total = sym (heads_count size xs xs_whole) ∙ ap length headers ∙ heads_count size ys ys_whole in
    let count : length xs ≡ length ys = omega arith in
    let heads = pieces (map (take 512) xs) (map (take 512) ys)
    (heads_long size xs xs_whole ∙ ap (λ n. replicate n 512) count ∙ sym (heads_long size ys ys_whole)) headers in
    let last : map highest xs ≡ map highest ys = highests xs ys heads in
    let long = mounted_long xs g a.holds.mounts ∙ ap (lengths_by (heads_of g.model * size) 0 g.cylinders) last
    ∙ sym (mounted_long ys g b.holds.mounts) in
    glued xs ys heads (pieces (map (drop 512) xs) (map (drop 512) ys) (behind_long xs ys long) (a.holds.order ∙ sym b.holds.order))
  where
    highests : (xs ys : List (List ℕ)) → map (take 512) xs ≡ map (take 512) ys → map highest xs ≡ map highest ys
    highests [] [] e = refl
    highests [] (y ∷ ys) e = cc
    highests (x ∷ xs) [] e = cc
    highests (x ∷ xs) (y ∷ ys) e =
        let front : take 512 x ≡ take 512 y = cc in
        let fronts : map (take 512) xs ≡ map (take 512) ys = cc in
        ap (λ h. highest_cylinder_field h ∷ map highest xs) front ∙ ap (λ ns. highest y ∷ ns) (highests xs ys fronts)
