-- What the writes leave of a slot that spells a whole track.
use Rattle.std.proofs.Common.{◌≡◌, ◌∙◌, ap, sym, refl, inl, inr, ℕ, ◌+◌, ◌≤◌, ◌<◌, ◌⊎◌, false, List, [], ◌∷◌, ◌++◌, length, length-append}
use Rattle.std.proofs.Common.{append_assoc, take, drop, flat_map, set, Ok, Option, None, Some, Fits, w8, arith}
use Rattle.std.specs.Prelude.{slice_index, bytes_eq}
use Rattle.std.specs.Result.{result_unwrap_or}
use Rattle.std.proofs.lemmas.Bool.{cases_lt}
use Rattle.std.proofs.lemmas.Grind.{flat_map-append}
use Rattle.std.proofs.lemmas.List.{take-append-drop, append-nil, take_at, drop_all, get_or_append_left}
use Rattle.std.proofs.lemmas.List.Elements.{All-nil, All-append, All-push, All-set}
use Rattle.ckd_track.specs.Track.{Record, Track, IsRecord, Spells, count_area, record_bytes, record_size, record_in, record_offsets}
use Rattle.ckd_track.specs.Track.{end_mark, spelling, body_length, record_at, size_at, track_of, track_in, slot_of}
use Rattle.ckd_track.specs.Changes.{bare_track, kept_records, with_record, with_data, with_body, with_key_data, data_offset, offset_behind}
use Rattle.ckd_track.specs.Changes.{end_offset, overwritten, ended_at}
use Rattle.ckd_track.proofs.Spelled.{reads_back}
use Rattle.ckd_track.proofs.Reading.{told_size}
use Rattle.ckd_track.proofs.Laws.{AreBytes, begins_with_record}
use Rattle.ckd_track.proofs.Slots.{kept_are, slot_of_reads}
use Rattle.ckd_track.proofs.Offsets.{with_record as with_record_in}
use Rattle.ckd_track.proofs.Places.{length-record_bytes, place, offset_is, drop-place, place-le, place-before, place-one, behind}
use Rattle.ckd_track.proofs.Places.{behind-one, record_is, end_is}
use Rattle.ckd_track.proofs.Rewritten.{length-overwritten, ended_at-slot, ended, changed_spells, changed_end, data_is_record, body_lengths}
use Rattle.ckd_track.proofs.Rewritten.{body_is_record, Rewrites, written, record_written}

-- The walk over the records.

module _ (s : List ℕ) (t : Track) (spells : Spells s t) where
  -- what stands at record k, and behind the last one
  record_there : (k : ℕ) → k < length t.records → size_at (place t k) (drop (place t k) s) ≡ Ok (Some (record_size (record_in t k)))
  record_there k lt =
      let back = reads_back (record_in t k) (behind s t spells (k + 1)) (record_is s t spells k lt) in
      rw (drop-place s t spells k ∙ behind-one s t spells k lt)
      (told_size (place t k) (record_bytes (record_in t k) ++ behind s t spells (k + 1)) (Ok (Some (record_size (record_in t k))))
      (record { is = omega (arith, back.size); fits = omega (arith, back.long); no_end_mark = back.no_end_mark }))

  end_there : size_at (place t (length t.records)) (drop (place t (length t.records)) s) ≡ Ok None
  end_there =
      rw (drop-place s t spells (length t.records), drop_all (length t.records) t.records (omega arith))
      (told_size (place t (length t.records)) (end_mark ++ spells.rest) (Ok None) (omega (arith, length-append end_mark spells.rest), refl))

  pub stepped : (k at size : ℕ) → at ≡ place t k → k ≤ length t.records → result_unwrap_or (size_at at (drop at s)) None ≡ Some size
      → (k < length t.records) × (at + size ≡ place t (k + 1))
  stepped k at size e le looked = by (cases_lt k (length t.records)) (rw e at looked)
    where
      by : (k < length t.records) ⊎ (length t.records ≤ k) → result_unwrap_or (size_at (place t k) (drop (place t k) s)) None ≡ Some size
          → (k < length t.records) × (at + size ≡ place t (k + 1))
      by (inl lt) there =
          let same : size ≡ record_size (record_in t k) = (let f = rw (record_there k lt) at there in cc) in
          (lt, omega (arith, e, same, place-one s t spells k lt))
      by (inr ge) there =
          let last : k ≡ length t.records = omega arith in
          absurd (let f = rw (last, end_there) at there in cc)

  pub stopped : (k at : ℕ) → at ≡ place t k → k ≤ length t.records → result_unwrap_or (size_at at (drop at s)) None ≡ None
      → at ≡ end_offset t
  stopped k at e le looked = by (cases_lt k (length t.records)) (rw e at looked)
    where
      by : (k < length t.records) ⊎ (length t.records ≤ k) → result_unwrap_or (size_at (place t k) (drop (place t k) s)) None ≡ None
          → at ≡ end_offset t
      by (inl lt) there = absurd (let f = rw (record_there k lt) at there in cc)
      by (inr ge) there = (let last : k ≡ length t.records = omega arith in rw last at e) ∙ end_is t

  pub first_place : 5 ≡ place t 0
  first_place = omega (arith, spells.home_address)

  -- where a record ends a new one may begin
  pub end_at-record : (i : ℕ) → i < length t.records → slice_index (record_offsets t) i + record_size (record_in t i) ≡ offset_behind t
      (Some i)
  end_at-record i lt = omega (arith, offset_is s t spells i lt, place-one s t spells i lt)

  -- the areas of a record lie before the end mark
  pub record-before : (i : ℕ) → i < length t.records → slice_index (record_offsets t) i + record_size (record_in t i) ≤ end_offset t
  record-before i lt = omega (arith, end_at-record i lt, place-before s t spells (i + 1))

-- and so in a slot of bytes
pub areas_before : (s : List ℕ) (i : ℕ) → ((i : ℕ) → Fits w8 (slice_index s i)) → i < length (track_in s).records
    → slice_index (record_offsets (track_in s)) i + record_size (record_in (track_in s) i) ≤ end_offset (track_in s)
areas_before s i fit lt = record-before s (track_in s) (with_record_in s fit i lt) i lt

-- A home address alone.

pub ha_slot : (s ha : List ℕ) → length ha ≡ 5 → 13 ≤ length s → ended_at (overwritten s 0 ha) 5 ≡ slot_of (length s) (bare_track ha)
ha_slot s ha five room =
    let front : take 5 (overwritten s 0 ha) ≡ ha ++ [] = take_at ha (drop (0 + length ha) s) 5 five ∙ sym (append-nil ha) in
    ended_at-slot (overwritten s 0 ha) (bare_track ha) 5 (length s) (length-overwritten s 0 ha (omega arith)) front room

pub ha_read : (ha : List ℕ) (n : ℕ) → length ha ≡ 5 → track_of (slot_of n (bare_track ha)) ≡ Ok (bare_track ha)
ha_read ha n five = slot_of_reads n (bare_track ha) five (All-nil IsRecord)

-- Other bytes in the areas of a record.

module _ (s : List ℕ) (t : Track) (spells : Spells s t) (i : ℕ) (lt : i < length t.records) where
  -- with another record of its size in the place of record i, and zeros behind the end mark
  changed_slot : (r : Record) (off : ℕ) (body : List ℕ) → IsRecord r → Rewrites (record_in t i) r off body
      → ended_at (overwritten s (slice_index (record_offsets t) i + off) body) (end_offset t) ≡ slot_of (length s) (record t {
        records =
            set t.records i r;
      })
  changed_slot r off body is w =
      let at = slice_index (record_offsets t) i + off in
      let before = length-record_bytes (record_in t i) (record_is s t spells i lt) in
      let size : record_size r ≡ record_size (record_in t i) = omega (
        arith,
        before,
        length-record_bytes r is,
        ap length w.was,
        ap length w.is,
        w.same,
        length-append w.first w.others,
        length-append w.first body,
      ) in
      let within : off + length body ≤ record_size (record_in t i) = omega (
        arith,
        before,
        ap length w.was,
        w.same,
        w.place,
        length-append w.first w.others,
      ) in
      let long = length-overwritten s at body (omega (
        arith,
        within,
        record-before s t spells i lt,
        end_is t,
        place-le s t spells (length t.records),
      )) in
      rw (← (changed_end s t spells i lt r is size))
      (ended (overwritten s at body) _ (length s) long (changed_spells s t spells i lt r is size _ (rw (offset_is s t spells i lt)
      (written s t spells i lt r off body w))))

  changed_read : (r : Record) → IsRecord r → (n : ℕ) → track_of (slot_of n (record t { records = set t.records i r }))
      ≡ Ok (record t { records = set t.records i r })
  changed_read r is n = slot_of_reads n (record t { records = set t.records i r }) spells.home_address
      (All-set IsRecord t.records i r is spells.records)

  eight : length (count_area (record_in t i)) ≡ 8
  eight = omega (arith, (record_is s t spells i lt).id, length-append {A = ℕ})

  module _ (body : List ℕ) (same : length body ≡ length (record_in t i).data_area) where
    pub data_slot : ended_at (overwritten s (data_offset t i) body) (end_offset t) ≡ slot_of (length s) (with_data i body t)
    data_slot =
        let r = record_in t i in
        let w : Rewrites r (record r { data_area = body }) (8 + length r.key_area) body =
        record {
          first = count_area r ++ r.key_area;
          others = r.data_area;
          was = refl;
          is = rw same refl;
          same = same;
          place =
              omega (arith, eight, length-append (count_area r) r.key_area);
        } in
        changed_slot _ _ body (data_is_record s t spells i lt body same) w

    pub data_read : track_of (slot_of (length s) (with_data i body t)) ≡ Ok (with_data i body t)
    data_read = changed_read _ (data_is_record s t spells i lt body same) (length s)

  module _ (body : List ℕ) (same : length body ≡ length (record_in t i).key_area + length (record_in t i).data_area) where
    pub key_data_slot : ended_at (overwritten s (slice_index (record_offsets t) i + 8) body) (end_offset t) ≡ slot_of (length s)
        (with_key_data i body t)
    key_data_slot =
        let r = record_in t i in
        let l = body_lengths s t spells i lt body same in
        let new : record_bytes (with_body body r) ≡ count_area r ++ body =
        rw (l.key_area, l.data_area) (simp (append_assoc, take-append-drop)) in
        let w : Rewrites r (with_body body r) 8 body = record {
          first = count_area r;
          others = r.key_area ++ r.data_area;
          was =
              simp append_assoc;
          is = new;
          same = omega (arith, same, length-append r.key_area r.data_area);
          place = eight;
        } in
        changed_slot _ _ body (body_is_record s t spells i lt body same) w

    pub key_data_read : track_of (slot_of (length s) (with_key_data i body t)) ≡ Ok (with_key_data i body t)
    key_data_read = changed_read _ (body_is_record s t spells i lt body same) (length s)

-- A new record.

-- the eight count bytes of a record, and as many bytes as they say
pub record Makes (count body : List ℕ) : Type 0 where
  pub is_record : IsRecord (record_at (count ++ body))
  pub all : record_bytes (record_at (count ++ body)) ≡ count ++ body

pub makes : (count body : List ℕ) → AreBytes count → AreBytes body → length count ≡ 8 → bytes_eq count end_mark ≡ false
    → length body ≡ body_length count → Makes count body
makes count body c b eight no_mark long =
    let bytes = count ++ body in
    let key : slice_index bytes 5 ≡ slice_index count 5 = get_or_append_left count body 0 5 (omega arith) in
    let high : slice_index bytes 6 ≡ slice_index count 6 = get_or_append_left count body 0 6 (omega arith) in
    let low : slice_index bytes 7 ≡ slice_index count 7 = get_or_append_left count body 0 7 (omega arith) in
    let total : length bytes ≡ 8 + body_length bytes = omega (arith, key, high, low, length-append count body) in
    let begins = begins_with_record bytes (8 + body_length bytes) (All-append (λ b. b < 256) count body c b) (record {
      is = refl;
      fits =
          omega (arith, total);
      no_end_mark = rw (take_at count body 8 eight) no_mark;
    }) in
    let none : drop (8 + body_length bytes) bytes ≡ [] = drop_all (8 + body_length bytes) bytes (omega (arith, total)) in
    record { is_record = begins.is_record; all = sym (begins.bytes_are ∙ rw none (append-nil (record_bytes (record_at bytes)))) }

module _ (s : List ℕ) (t : Track) (spells : Spells s t) (after : Option ℕ) (count body : List ℕ) (eight : length count ≡ 8)
    (made : Makes count body)
    (room : length (spelling (with_record after (record_at (count ++ body)) t)) ≤ length s) where
  front_of : (after : Option ℕ) → offset_behind t after + 8 + length body ≤ length s
      → take (offset_behind t after + 8 + length body) (overwritten (overwritten s (offset_behind t after) count) (offset_behind t after
      + 8) body)
      ≡ t.home_address ++ flat_map record_bytes (kept_records after t ++ record_at (count ++ body) ∷ [])
  front_of None le = record_written s t spells 0 count body (record_at (count ++ body)) eight made.all le
  front_of (Some i) le = record_written s t spells (i + 1) count body (record_at (count ++ body)) eight made.all le

  pub new_room : offset_behind t after + 8 + length body + 8 ≤ length s
  new_room = omega (
    arith,
    ap length (flat_map-append record_bytes (kept_records after t) (record_at (count ++ body) ∷ [])),
    ap length made.all,
    length-append {A = ℕ},
    eight,
    room,
  )

  pub new_slot : ended_at (overwritten (overwritten s (offset_behind t after) count) (offset_behind t after + 8) body)
      (offset_behind t after + 8 + length body)
      ≡ slot_of (length s) (with_record after (record_at (count ++ body)) t)
  new_slot =
      let at = offset_behind t after in
      let new = overwritten (overwritten s at count) (at + 8) body in
      let first = length-overwritten s at count (omega (arith, new_room, eight)) in
      let long : length new ≡ length s = length-overwritten (overwritten s at count) (at + 8) body (omega (arith, new_room, first))
      ∙ first in
      ended_at-slot new (with_record after (record_at (count ++ body)) t) (at + 8 + length body) (length s) long
      (front_of after (omega (arith, new_room))) new_room

  pub new_read : track_of (slot_of (length s) (with_record after (record_at (count ++ body)) t))
      ≡ Ok (with_record after (record_at (count ++ body)) t)
  new_read = slot_of_reads (length s) (with_record after (record_at (count ++ body)) t) spells.home_address
      (All-push IsRecord (kept_records after t) (record_at (count ++ body)) (kept_are after t spells.records) made.is_record)
