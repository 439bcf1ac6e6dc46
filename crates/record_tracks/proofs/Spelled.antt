-- The bytes that a track begins with, record after record.
use Rattle.std.proofs.Common.{◌≡◌, ◌∙◌, ap, refl, ℕ, ◌+◌, ◌≤◌, ◌<◌, List, [], ◌∷◌, ◌++◌, length, take, flat_map, arith, length-append}
use Rattle.std.proofs.Common.{append_assoc, append-nil, get_or, zero, suc, ◌/◌, ◌%◌, All, Ok, replicate, bytes_eq, slice_index_or}
use Rattle.std.proofs.lemmas.{Grind.flat_map-append, List.Sums.sum_by-cons, List.Sums.sum_by-append, List.Sums.sum_by-take-le}
use Rattle.std.proofs.lemmas.{List.take_more, List.take-take, List.length-take-le, Slice.Eq.bytes_eq-Decides, Bool.false_from_ne_true}
use Rattle.std.proofs.lemmas.List.Elements.{All-nil, All-cons, All-head, All-tail, All-take}
use Rattle.ckd_track.specs.{declared.geometries.Geometry.Geometry, Model.capacity_of, Model.heads_of, declared.model.DriveModel.DriveModel}
use Rattle.ckd_track.specs.Track.{Record, record_bytes, IsRecord, track_of, no_record, count_area, end_mark}
use Rattle.ckd_track.specs.NewVolume.{address}
use Rattle.record_tracks.specs.{Records.Areas, Records.end_of_file, Records.GoesOn, Writing.track_front, Writing.records_front}
use Rattle.record_tracks.specs.Tracks.{fitting_on, record_with, records_with, track_bytes, loaded_track, loaded_slot}
use Rattle.record_tracks.proofs.Fitting.{sizes, area_size, fits_on, few_bytes}
use Rattle.ckd_track.proofs.Slots.{slot_of_reads}

-- records for areas, and behind them for others
pub records-append : (track : List ℕ) (number : ℕ) (xs ys : List Areas)
    → records_with track number (xs ++ ys) ≡ records_with track number xs ++ records_with track (number + length xs) ys
unfolding records_with
records-append track number [] ys = let none : number + 0 ≡ number = omega arith in rw none refl
records-append track number (a ∷ others) ys =
    let far : number + 1 + length others ≡ number + length (a ∷ others) = omega arith in
    ap (λ (rs : List Record). record_with track number a ∷ rs) (rw far at (records-append track (number + 1) others ys))

-- a record, by the bytes of its track's address
pub length-record_with : (track : List ℕ) (number : ℕ) (a : Areas) → length track ≡ 4
    → length (record_bytes (record_with track number a)) ≡ area_size a
length-record_with track number a four = omega (arith, length-append {A = ℕ})

pub length-records : (track : List ℕ) (number : ℕ) (areas : List Areas) → length track ≡ 4
    → length (flat_map record_bytes (records_with track number areas)) ≡ sizes areas
unfolding records_with
length-records track number [] four = refl
length-records track number (a ∷ others) four =
    let rs = flat_map record_bytes (records_with track (number + 1) others) in
    let behind = length-records track (number + 1) others four in
    let both = length-append (record_bytes (record_with track number a)) rs in
    omega (arith, length-record_with track number a four, sum_by-cons area_size a others)

-- the bytes of one record more
pub one_more_record : (g : Geometry) (n k : ℕ) (areas : List Areas) (a : Areas) → k < length areas → get_or areas k end_of_file ≡ a
    → records_front g n (take (k + 1) areas) ≡ records_front g n (take k areas) ++ record_bytes (record_with (track_bytes g n) (k + 1) a)
unfolding records_with
one_more_record g n k areas a there is =
    let track = track_bytes g n in
    let front = track_front g n in
    let before = records_with track 1 (take k areas) in
    let number : 1 + length (take k areas) ≡ k + 1 = omega (arith, length-take-le k areas (omega arith)) in
    let more : records_with track 1 (take (k + 1) areas) ≡ before ++ (record_with track (k + 1) a ∷ []) =
    cc (take_more areas k end_of_file there, records-append track 1 (take k areas) (a ∷ [])) in
    let last = record_bytes (record_with track (k + 1) a) in
    let two = flat_map-append record_bytes before (record_with track (k + 1) a ∷ []) in
    cc (append-nil last, append_assoc front (flat_map record_bytes before) last)

-- how long that is
pub length-front : (g : Geometry) (n : ℕ) (areas : List Areas) → length (records_front g n areas) ≡ 21 + sizes areas
length-front g n areas =
    let three = length-append (track_front g n) (flat_map record_bytes (records_with (track_bytes g n) 1 areas)) in
    omega (arith, length-records (track_bytes g n) 1 areas refl)

-- Room in a slot that has 37 bytes more than the capacity.
module _ (g : Geometry) (n : ℕ) (areas : List Areas) where
  pub room_for_all : 21 + sizes (take (fitting_on g.model areas) areas) ≤ capacity_of g.model + 29
  room_for_all = omega (arith, (fits_on g.model 0 areas).room (omega arith))

  sizes_to : (k : ℕ) → k ≤ fitting_on g.model areas → sizes (take k areas) ≤ sizes (take (fitting_on g.model areas) areas)
  sizes_to k within =
      let all = sum_by-take-le area_size (take (fitting_on g.model areas) areas) k in
      rw (take-take k (fitting_on g.model areas) areas within) at all

  pub room_for_one : (k : ℕ) (a : Areas) → k < fitting_on g.model areas → get_or areas k end_of_file ≡ a
      → length (records_front g n (take k areas)) + area_size a ≤ capacity_of g.model + 29
  room_for_one k a there is =
      let within = (fits_on g.model 0 areas).within in
      let size : sizes (take (k + 1) areas) ≡ sizes (take k areas) + area_size a =
      ap sizes (take_more areas k end_of_file (omega arith) ∙ ap (λ (x : Areas). take k areas ++ x ∷ []) is)
      ∙ sum_by-append area_size (take k areas) (a ∷ []) ∙ omega (arith, sum_by-cons area_size a []) in
      omega (arith, length-front g n (take k areas), sizes_to (k + 1) (omega arith), room_for_all)

-- a track with none of them
pub no_areas : (g : Geometry) (n : ℕ) → records_front g n [] ≡ track_front g n
unfolding records_with
no_areas g n = append-nil (track_front g n)

-- a record whose key has less than 255 bytes is no end mark
pub is_record : (c h number : ℕ) (a : Areas) → length a.key_area < 255 → length a.data_area < 65536
    → IsRecord (record_with (address c h) number a)
is_record c h number a key short = record {
  id = refl;
  key_area = omega arith;
  data_area = short;
  no_end_mark = false_from_ne_true (bytes_eq (count_area (record_with (address c h) number a)) end_mark) (λ e.
      let same : count_area (record_with (address c h) number a) ≡ end_mark =
      (bytes_eq-Decides (count_area (record_with (address c h) number a)) end_mark).0 e in
      let byte : length a.key_area ≡ 255 = ap (λ (xs : List ℕ). get_or xs 5 0) same in omega arith);
}

pub are_records : (model : DriveModel) (c h number : ℕ) (areas : List Areas) → All (GoesOn model) areas
    → All IsRecord (records_with (address c h) number areas)
unfolding records_with
are_records model c h number [] each = All-nil IsRecord
are_records model c h number (a ∷ others) each =
    let goes = All-head (GoesOn model) a others each in
    All-cons IsRecord (record_with (address c h) number a) (records_with (address c h) (number + 1) others)
    (is_record c h number a goes.key (few_bytes model a goes))
    (are_records model c h (number + 1) others (All-tail (GoesOn model) a others each))

-- the record of a number
pub record_of : (track : List ℕ) (number : ℕ) (areas : List Areas) (k : ℕ) → k < length areas
    → slice_index_or (records_with track number areas) k no_record ≡ record_with track (number + k) (get_or areas k end_of_file)
unfolding records_with
record_of track number [] k there = absurd (omega arith)
record_of track number (a ∷ others) zero there = let e : number + 0 ≡ number = omega arith in rw e refl
record_of track number (a ∷ others) (suc k) there =
    let e : number + 1 + k ≡ number + suc k = omega arith in rw e at (record_of track (number + 1) others k (omega arith))

pub length-records_of : (track : List ℕ) (number : ℕ) (areas : List Areas) → length (records_with track number areas) ≡ length areas
unfolding records_with
length-records_of track number [] = refl
length-records_of track number (a ∷ others) = ap suc (length-records_of track (number + 1) others)

pub loaded_read : (g : Geometry) (n : ℕ) (left : List Areas) → All (GoesOn g.model) left
    → track_of (loaded_slot g n left) ≡ Ok (loaded_track g n left)
loaded_read g n left each =
    let c = n / heads_of g.model in
    let h = n % heads_of g.model in
    let placed = take (fitting_on g.model left) left in
    let r0 : Areas = record { key_area = []; data_area = replicate 8 0 } in slot_of_reads g.track_size (loaded_track g n left) refl
    (All-cons IsRecord (record_with (address c h) 0 r0) (records_with (address c h) 1 placed)
    (is_record c h 0 r0 (omega arith) (omega arith))
    (are_records g.model c h 1 placed (All-take (GoesOn g.model) (fitting_on g.model left) left each)))
