-- A new volume, written piece by piece.
use Rattle.std.proofs.Common.{◌≡◌, Ok, ℕ, zero, suc, ◌+◌, ◌*◌, ◌≤◌, ◌<◌, max, List, [], ◌∷◌, ◌++◌, length, take, drop, map, All, refl, sym}
use Rattle.std.proofs.Common.{lit≤, ap, ◌∙◌, arith, length-append, length-drop}
use Rattle.std.proofs.Math.Nat.{zero-add, zero-mul, suc-mul, mul-le-mul_right}
use Rattle.std.proofs.lemmas.List.{append_assoc, append-nil, length-replicate, take_at, drop_at, drop-drop, drop_all}
use Rattle.std.proofs.lemmas.List.Folds.{concat-append}
use Rattle.std.proofs.lemmas.List.FromFn.{map-range_with_len_more, length-map-range_with_len, get_or-map-range_with_len}
use Rattle.std.specs.List.{concat, range_with_len}
use Rattle.ckd_track.specs.declared.model.DriveModel.{DriveModel}
use Rattle.ckd_track.specs.declared.model.DriveModel.TheVariants.{D2311, D2314}
use Rattle.ckd_track.specs.Model.{slot_size_of}
use Rattle.ckd_track.specs.Track.{slot_of}
use Rattle.ckd_track.specs.declared.geometries.Geometry.{Geometry}
use Rattle.ckd_track.specs.Geometry.{tracks_of, new_geometry}
use Rattle.ckd_image.specs.Layout.{image_length}
use Rattle.ckd_image.specs.Header.{new_header, mount_of}
use Rattle.ckd_image.specs.Files.{slot_bytes}
use Rattle.ckd_image.specs.Store.{overwritten}
use Rattle.ckd_track.specs.NewVolume.{new_slot, new_slots}
use Rattle.ckd_image.specs.Slots.{slots_in}
use Rattle.ckd_image.specs.Image.{new_file, new_image}
use Rattle.ckd_image.proofs.MountLemmas.{new_file_mounts}
use Rattle.ckd_image.proofs.ImageLemmas.{seen}

-- the header and the first n slots
abbrev pub begun : Geometry → ℕ → List ℕ
begun g n = new_header g.model ++ concat (map (new_slot g) (range_with_len 0 n))

length-new_header : (model : DriveModel) → length (new_header model) ≡ 512
length-new_header D2311 = refl
length-new_header D2314 = refl

pub length-new_slot : (g : Geometry) (n : ℕ) → 29 ≤ g.track_size → length (new_slot g n) ≡ g.track_size
unfolding slot_of
length-new_slot g n h = simp (length-append, length-replicate) (omega arith)

begun_more : (g : Geometry) (n : ℕ) → begun g (n + 1) ≡ begun g n ++ new_slot g n
begun_more g n =
    let slots = map (new_slot g) (range_with_len 0 n) in
    ap (λ (all : List (List ℕ)). new_header g.model ++ concat all) (map-range_with_len_more (new_slot g) 0 n n (zero-add n))
    ∙ ap (λ (bytes : List ℕ). new_header g.model ++ bytes) (concat-append slots (new_slot g n ∷ [])
    ∙ ap (λ (bytes : List ℕ). concat slots ++ bytes) (append-nil (new_slot g n)))
    ∙ sym (append_assoc (new_header g.model) (concat slots) (new_slot g n))

pub length-begun : (g : Geometry) (n : ℕ) → 29 ≤ g.track_size → length (begun g n) ≡ 512 + n * g.track_size
length-begun g zero h = length-append (new_header g.model) [] ∙ omega (arith, length-new_header g.model, zero-mul g.track_size)
length-begun g (suc n) h =
    let next : suc n ≡ n + 1 = omega arith in
    ap (λ (m : ℕ). length (begun g m)) next ∙ ap length (begun_more g n) ∙ length-append (begun g n) (new_slot g n)
    ∙ omega (arith, length-begun g n h, length-new_slot g n h, suc-mul n g.track_size)

-- one write behind the other
pub overwritten_more : (old xs ys : List ℕ) (at : ℕ) → at ≡ length xs → overwritten (overwritten old 0 xs) at ys ≡ overwritten old 0
    (xs ++ ys)
overwritten_more old xs ys at is =
    let rest = drop (length xs) old in
    let behind : drop (length ys) rest ≡ drop (length (xs ++ ys)) old = drop-drop (length ys) (length xs) old
    ∙ ap (λ (n : ℕ). drop n old) (sym (length-append xs ys)) in
    rw (is, zero-add (length xs), zero-add (length (xs ++ ys)), take_at xs rest (length xs) refl)
    (ap (λ (s : List ℕ). xs ++ ys ++ s) (sym (drop-drop (length ys) (length xs) (xs ++ rest))
    ∙ ap (drop (length ys)) (drop_at xs rest (length xs) refl) ∙ behind))

pub length-overwritten_start : (old xs : List ℕ) → length (overwritten old 0 xs) ≡ max (length old) (length xs)
length-overwritten_start old xs = simp (length-append, length-drop, zero-add) (omega arith)

-- a new file that is not shorter than the old content is the whole content
pub overwritten_whole : (old xs : List ℕ) → length old ≤ length xs → overwritten old 0 xs ≡ xs
overwritten_whole old xs h =
    rw zero-add (ap (λ (s : List ℕ). xs ++ s) (drop_all (length xs) old h) ∙ append-nil xs)

pub slots_in-concat : (size : ℕ) (slots : List (List ℕ)) → All (λ slot. length slot ≡ size) slots
    → slots_in size (length slots) (concat slots) ≡ slots
unfolding slots_in
slots_in-concat size [] sizes = refl
slots_in-concat size (slot ∷ slots) sizes =
    let first : length slot ≡ size = sizes 0 [] (omega arith) in
    let others : All (λ slot. length slot ≡ size) slots = λ k d h. sizes (suc k) d (omega arith) in
    ap (λ (x : List ℕ). x ∷ slots_in size (length slots) (drop size (slot ++ concat slots))) (take_at slot (concat slots) size first)
    ∙ ap (λ (xs : List (List ℕ)). slot ∷ xs) (ap (slots_in size (length slots)) (drop_at slot (concat slots) size first)
    ∙ slots_in-concat size slots others)

-- what is seen of the new file is the new volume
pub slots-new_file : (g : Geometry) → 29 ≤ g.track_size → slots_in g.track_size (tracks_of g) (drop 512 (new_file g)) ≡ new_slots g
slots-new_file g h =
    let count : length (new_slots g) ≡ tracks_of g = length-map-range_with_len (new_slot g) 0 (tracks_of g) in
    let sizes : All (λ slot. length slot ≡ g.track_size) (new_slots g) = λ k d below.
    rw (get_or-map-range_with_len (new_slot g) 0 (tracks_of g) k k d (omega arith) (zero-add k)) (length-new_slot g k h) in
    ap (slots_in g.track_size (tracks_of g)) (drop_at (new_header g.model) (concat (new_slots g)) 512 (length-new_header g.model))
    ∙ ap (λ (n : ℕ). slots_in g.track_size n (concat (new_slots g))) (sym count)
    ∙ slots_in-concat g.track_size (new_slots g) sizes

pub header-new_file : (g : Geometry) → take 512 (new_file g) ≡ new_header g.model
header-new_file g = take_at (new_header g.model) (concat (new_slots g)) 512 (length-new_header g.model)

-- Between two writes.

-- a new volume's slots have room for what is spelled in them
pub slot_room : (g : Geometry) → g.track_size ≡ slot_size_of g.model → 29 ≤ g.track_size
slot_room g is = rw is (room_of g.model)
  where
    room_of : (model : DriveModel) → 29 ≤ slot_size_of model
    room_of D2311 = lit≤ tt
    room_of D2314 = lit≤ tt

pub length-so_far : (g : Geometry) (old now : List ℕ) (n : ℕ) → g.track_size ≡ slot_size_of g.model → now ≡ overwritten old 0 (begun g n)
    → length now ≡ max (length old) (512 + n * g.track_size)
length-so_far g old now n size is =
    ap length is ∙ length-overwritten_start old (begun g n) ∙ ap (λ (m : ℕ). max (length old) m) (length-begun g n (slot_room g size))

pub not_longer : (g : Geometry) (old now : List ℕ) (n : ℕ) → g.track_size ≡ slot_size_of g.model → now ≡ overwritten old 0 (begun g n)
    → n ≤ tracks_of g → length now ≤ max (length old) (image_length g)
not_longer g old now n size is h = omega (
  arith,
  length-so_far g old now n size is,
  mul-le-mul_right {m = n} {n =
      tracks_of g} g.track_size h,
)

pub one_more : (g : Geometry) (old now next : List ℕ) (n : ℕ) → g.track_size ≡ slot_size_of g.model → now ≡ overwritten old 0 (begun g n)
    → next ≡ overwritten now (512 + n * g.track_size) (new_slot g n) → next ≡ overwritten old 0 (begun g (n + 1))
one_more g old now next n size is written =
    written ∙ ap (λ (s : List ℕ). overwritten s (512 + n * g.track_size) (new_slot g n)) is
    ∙ overwritten_more old (begun g n) (new_slot g n) (512 + n * g.track_size) (sym (length-begun g n (slot_room g size)))
    ∙ ap (overwritten old 0) (sym (begun_more g n))

-- A new volume, written whole.

pub written_whole : (model : DriveModel) (cylinders : ℕ) (old now : List ℕ) → length old ≤ image_length (new_geometry model cylinders)
    → now ≡ overwritten old 0 (new_file (new_geometry model cylinders)) → now ≡ new_file (new_geometry model cylinders)
written_whole model cylinders old now short is =
    let new = new_geometry model cylinders in
    is ∙ overwritten_whole old (new_file new) (omega (arith, length-begun new (tracks_of new) (slot_room new refl)))

pub new_file_mounted : (model : DriveModel) (cylinders : ℕ) → 1 ≤ cylinders → cylinders < 65536
    → mount_of (new_file (new_geometry model cylinders) ∷ []) ≡ Ok (new_geometry model cylinders)
new_file_mounted model cylinders least most =
    let g = new_geometry model cylinders in
    new_file_mounts model cylinders (new_file g) least most (header-new_file g) (length-begun g (tracks_of g) (slot_room g refl))

pub new_image_seen : (model : DriveModel) (cylinders : ℕ) (origin : List ℕ) (failures : ℕ)
    → seen (new_geometry model cylinders) (new_file (new_geometry model cylinders) ∷ []) (origin ∷ []) failures 0 0
    ≡ new_image model cylinders origin failures
new_image_seen model cylinders origin failures =
    let g = new_geometry model cylinders in
    let bytes : slot_bytes (new_file g ∷ []) ≡ drop 512 (new_file g) = append-nil (drop 512 (new_file g)) in
    let header : take 512 (new_file g) ++ [] ≡ new_header model = append-nil (take 512 (new_file g)) ∙ header-new_file g in
    rw (bytes, slots-new_file g (slot_room g refl), header) refl
