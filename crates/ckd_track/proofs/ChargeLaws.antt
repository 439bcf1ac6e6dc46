-- What fits a track's capacity fits its slot.
use Rattle.std.proofs.Common.{◌≡◌, ap, ℕ, zero, suc, ◌+◌, ◌≤◌, ◌<◌, true, false, Option, None, List, [], ◌∷◌, ◌++◌, length, length-append}
use Rattle.std.proofs.Common.{take, slice_index, slice_index_or, All, sum_by, flat_map, bytes_eq, arith}
use Rattle.std.proofs.lemmas.Bool.Decides.{nat_tests}
use Rattle.std.proofs.lemmas.Grind.{flat_map-append}
use Rattle.std.proofs.lemmas.List.{take_more, take-take, take_all, length-take, length-drop, get_or_append_left}
use Rattle.std.proofs.lemmas.List.Elements.{All-head, All-tail}
use Rattle.std.proofs.lemmas.List.Sums.{sum_by-le-sum_by, sum_by_push, sum_by-take-le}
use Rattle.std.proofs.lemmas.Slice.Eq.{bytes_eq-Decides}
use Rattle.std.proofs.lemmas.Bool.{false_from_ne_true}
use Rattle.ckd_track.specs.declared.model.DriveModel.{DriveModel}
use Rattle.ckd_track.specs.declared.model.DriveModel.TheVariants.{D2311, D2314}
use Rattle.ckd_track.specs.Model.{capacity_of}
use Rattle.ckd_track.specs.Track.{Record, Track, IsRecord, no_record, record_bytes, record_size, end_mark, spelling, record_at, key_length}
use Rattle.ckd_track.specs.Track.{data_length}
use Rattle.ckd_track.specs.Charges.{charge_of, last_charge_of, r0_charge_of, record_charge, charge_at, kept_charges, capacity_left}
use Rattle.ckd_track.specs.Charges.{new_charge, has_room, LeavesRoom}
use Rattle.ckd_track.specs.Changes.{kept_records}
use Rattle.ckd_track.proofs.Places.{length-record_bytes}
use Rattle.ckd_track.proofs.Slots.{kept_are, length-records}

-- No charge is below the bytes that it is for.

record Covers (model : DriveModel) (kl dl : ℕ) : Type 0 where
  kept : 8 + (kl + dl) ≤ charge_of model kl dl
  first : kl + dl ≤ 8 + r0_charge_of model kl dl
  last : kl + dl ≤ last_charge_of model kl dl
  most : capacity_of model ≤ 7294

covers : (model : DriveModel) (kl dl : ℕ) → Covers model kl dl
covers D2311 kl dl = record { kept = omega arith; first = omega arith; last = omega arith; most = omega arith }
covers D2314 kl dl = record { kept = omega arith; first = omega arith; last = omega arith; most = omega arith }

kept_and_new-le : (model : DriveModel) (kept : List Record) (kl dl : ℕ) → All IsRecord kept
    → length (flat_map record_bytes kept) + (kl + dl) ≤ 16 + (kept_charges model kept + new_charge model kept kl dl)
kept_and_new-le model [] kl dl are = omega (arith, (covers model kl dl).first)
kept_and_new-le model (r ∷ rs) kl dl are =
    let others = length-records rs (All-tail IsRecord r rs are) in
    let charged = sum_by-le-sum_by record_size (record_charge model) rs (λ r. (covers model (length r.key_area) (length r.data_area)).kept)
    in
    let own = length-record_bytes r (All-head IsRecord r rs are) in
    omega (
      arith,
      others,
      charged,
      own,
      (covers model (length r.key_area) (length r.data_area)).first,
      (covers model kl dl).last,
      length-append (record_bytes r) (flat_map record_bytes rs),
    )

-- What fits has room.

-- in every slot that has 37 bytes more than the capacity
room : (model : DriveModel) (ha : List ℕ) (kept : List Record) (new : Record) → length ha ≡ 5 → All IsRecord kept → length new.id ≡ 5
    → has_room model kept (length new.key_area) (length new.data_area) ≡ true
    → length (spelling (record { home_address = ha; records = kept ++ new ∷ [] })) ≤ capacity_of model + 37
room model ha kept new home are id fits =
    let kl = length new.key_area in
    let dl = length new.data_area in
    let below : kept_charges model kept + new_charge model kept kl dl ≤ capacity_of model = grind (arith, nat_tests) in
    omega (
      arith,
      below,
      kept_and_new-le model kept kl dl are,
      id,
      ap length (flat_map-append record_bytes kept (new ∷ [])),
      length-append {A = ℕ},
    )

-- the record that count bytes begin, by its lengths
new_lengths : (count body : List ℕ) → length count ≡ 8 → length body ≡ key_length count + data_length count
    → (length (record_at (count ++ body)).id ≡ 5) × (length (record_at (count ++ body)).key_area ≡ key_length count)
    × (length (record_at (count ++ body)).data_area ≡ data_length count)
new_lengths count body eight long =
    let total = length-append count body in
    let key : slice_index (count ++ body) 5 ≡ slice_index count 5 = get_or_append_left count body 0 5 (omega arith) in
    let high : slice_index (count ++ body) 6 ≡ slice_index count 6 = get_or_append_left count body 0 6 (omega arith) in
    let low : slice_index (count ++ body) 7 ≡ slice_index count 7 = get_or_append_left count body 0 7 (omega arith) in (
      omega (arith, length-take {A = ℕ}),
      omega (arith, length-take {A = ℕ}, length-drop {A = ℕ}),
      omega (arith, length-take {A = ℕ}, length-drop {A = ℕ}),
    )

-- the condition that a write of a new record has on its slot
pub leaves_room : (model : DriveModel) (t : Track) (after : Option ℕ) (kl dl : ℕ) → length t.home_address ≡ 5 → All IsRecord t.records
    → has_room model (kept_records after t) kl dl ≡ true
    → LeavesRoom (capacity_of model + 37) after kl dl t
leaves_room model t after kl dl home are fits = λ count body eight key long both.
    let n = new_lengths count body eight (rw (key, long) both) in
    room model t.home_address (kept_records after t) (record_at (count ++ body)) home (kept_are after t are) n.0
    (rw (n.1, n.2, key, long) fits)

lengths-le : (model : DriveModel) (kept : List Record) (kl dl : ℕ) → has_room model kept kl dl ≡ true → kl + dl ≤ 8 + 7294
lengths-le model [] kl dl fits = let c = covers model kl dl in grind (arith, nat_tests)
lengths-le model (r ∷ rs) kl dl fits = let c = covers model kl dl in grind (arith, nat_tests)

-- a count of eight bytes FF, which is the end mark, fits no track
pub no_end_mark : (model : DriveModel) (kept : List Record) (count : List ℕ) → has_room model kept (key_length count) (data_length count)
    ≡ true → bytes_eq count end_mark ≡ false
no_end_mark model kept count fits = false_from_ne_true (bytes_eq count end_mark) (λ e.
    let same : count ≡ end_mark = (bytes_eq-Decides count end_mark).0 e in
    let kl : key_length count ≡ 255 = ap key_length same in
    let dl : data_length count ≡ 65535 = ap data_length same in
    omega (arith, kl, dl, lengths-le model kept (key_length count) (data_length count) fits))

-- One record after another.

kept_charges-more : (model : DriveModel) (rs : List Record) (i : ℕ) → i < length rs
    → kept_charges model (take (i + 1) rs) ≡ kept_charges model (take i rs) + charge_at model i (slice_index_or rs i no_record)
kept_charges-more model [] i lt = absurd (omega (arith, lt))
kept_charges-more model (r ∷ rs) zero lt = omega arith
kept_charges-more model (r ∷ rs) (suc i) lt =
    let next = slice_index_or rs i no_record in
    let one : take (i + 1) rs ≡ take i rs ++ next ∷ [] = take_more rs i no_record (omega (arith, lt)) in
    let n : suc i + 1 ≡ suc (i + 1) = omega arith in
    let later : charge_at model (suc i) next ≡ record_charge model next = grind (arith, nat_tests) in
    rw n (omega (arith, ap (sum_by (record_charge model)) one, sum_by_push (record_charge model) (take i rs) next, later))

kept_charges-le : (model : DriveModel) (rs : List Record) (i j : ℕ) → i ≤ j → kept_charges model (take i rs) ≤ kept_charges model
    (take j rs)
kept_charges-le model [] i j le = rw (take_all {A = Record} i [] (omega arith), take_all {A = Record} j [] (omega arith)) (omega arith)
kept_charges-le model (r ∷ rs) zero j le = omega arith
kept_charges-le model (r ∷ rs) (suc i) zero le = absurd (omega (arith, le))
kept_charges-le model (r ∷ rs) (suc i) (suc j) le =
    omega (arith, rw (take-take i j rs (omega (arith, le))) at (sum_by-take-le (record_charge model) (take j rs) i))

-- the records after one that takes more than is left leave nothing either
pub none_left : (model : DriveModel) (rs : List Record) (i to left : ℕ) → left + kept_charges model (take i rs) ≡ capacity_of model → i < to
    → to ≤ length rs
    → (charge_at model i (slice_index_or rs i no_record) ≤ left → ⊥) → capacity_left model (take to rs) ≡ None
none_left model rs i to left before lt within over =
    let past : capacity_of model < kept_charges model (take to rs) = omega (
      arith,
      kept_charges-more model rs i (omega (arith, lt, within)),
      kept_charges-le model rs (i + 1) to (omega (arith, lt)),
      before,
      over,
    ) in
    grind (arith, nat_tests)

-- where the first records take more, so do all that begin with them
pub none_behind : (model : DriveModel) (rs : List Record) (i j : ℕ) → i ≤ j → None ≡ capacity_left model (take i rs)
    → None ≡ capacity_left model (take j rs)
none_behind model rs i j le is = let more = kept_charges-le model rs i j le in grind (arith, nat_tests)
