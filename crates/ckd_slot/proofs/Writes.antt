-- What writes leave of the slot and of the table.
use Rattle.std.proofs.Common.{Bool, ◌≡◌, ◌∙◌, ap, sym, subst, refl, ℕ, zero, suc, ◌+◌, ◌-◌, ◌*◌, ◌/◌, ◌^◌, ◌≤◌, ◌<◌, min, List, [], ◌∷◌}
use Rattle.std.proofs.Common.{◌++◌, true, false, length, take, drop, set, flat_map, replicate, slice_index, bytes_eq, length-append}
use Rattle.std.proofs.Common.{length-take, length-set, append-nil, Option, Some, None, Ok, unwrap_or, All, sum_by, arith}
use Rattle.std.specs.Option.{ForSome}
use Rattle.std.proofs.lemmas.List.{length-replicate, take_min, take_at, take-take, take_more_set, get_or_at}
use Rattle.std.proofs.Math.Seq.{map-set_same}
use Rattle.std.proofs.lemmas.List.Elements.{All-set, All-nil, All-take, All-push, All-replicate}
use Rattle.ckd_track.specs.Track.{Record, Track, IsRecord, Spells, track_of, track_in, track_or_none, record_in, no_record, record_offsets}
use Rattle.ckd_track.specs.Track.{offsets_from, record_size, record_bytes, record_at, body_length, key_length, data_length, spelling}
use Rattle.ckd_track.specs.Track.{slot_of, end_mark}
use Rattle.ckd_track.specs.Changes.{bare_track, kept_records, with_record, with_body, offset_behind, end_offset, data_offset, overwritten}
use Rattle.ckd_track.specs.Changes.{ended_at}
use Rattle.ckd_track.proofs.Laws.{AreBytes}
use Rattle.ckd_track.proofs.Places.{length-record_bytes, place, place-one, offset_is, place-le, end_is}
use Rattle.ckd_track.proofs.Offsets.{few_records}
use Rattle.ckd_track.proofs.Slots.{kept_are, slot_of_spells, slot_of_reads, length-slot_of, length-spelling, offsets-append, offsets-take}
use Rattle.ckd_track.proofs.Rewritten.{length-overwritten, changed_end, data_is_record, body_is_record, body_lengths}
use Rattle.ckd_track.proofs.Writing.{record-before, Makes, makes, new_slot, new_room, data_slot, key_data_slot}
use Rattle.ckd_track.specs.declared.model.DriveModel.{DriveModel}
use Rattle.ckd_track.specs.Model.{capacity_of}
use Rattle.ckd_track.specs.Charges.{has_room}
use Rattle.ckd_track.proofs.ChargeLaws.{leaves_room, no_end_mark}
use Rattle.ckd_position.specs.declared.areas.Area.{Area}
use Rattle.ckd_position.specs.declared.areas.Area.TheVariants.{HomeAddress, Of}
use Rattle.ckd_position.specs.declared.areas.RecordPart.{RecordPart}
use Rattle.ckd_position.specs.declared.areas.RecordPart.TheVariants as part
use Rattle.ckd_position.specs.Contents.{Sighted, is_readable, padded, new_record, record_before, formatted, kept, replaced}
use Rattle.ckd_position.specs.Contents.{with_record_changed}
use Rattle.ckd_slot.specs.Buffer.{IsIndexed, IsBuffer, StandsThere, number_up_to, FitsSlot, CanMake, IsUpdate, IsUpdateAt, IsPlaceOf}
use Rattle.ckd_slot.specs.Buffer.{end_of_records, record_place, lengths_on, fits_track, area_before, made_on}
use Rattle.ckd_slot.specs.declared.charges.Charged.{Charged}
use Rattle.ckd_position.specs.declared.extents.AreaBytes.{AreaBytes}
use Rattle.ckd_position.specs.declared.extents.AreaBytes.TheVariants as extent
use Rattle.ckd_slot.specs.declared.windows.Window.{Window}
use Rattle.ckd_slot.proofs.AreaPlaces.{Reads, reads_indexed, parts_there, how_many}
use Rattle.ckd_slot.proofs.Lengths.{lengths_of}
use Rattle.ckd_slot.proofs.Begun.{zeros_first}

-- The table.

pub place_there : {slot : List ℕ} (e : AreaBytes) (i at : ℕ) → Reads slot → StandsThere slot i (Some at)
    → record_place e at (key_length (drop at slot)) (data_length (drop at slot)) ≡ record_place e
    (slice_index (record_offsets (track_in slot)) i) (length (record_in (track_in slot) i).key_area)
    (length (record_in (track_in slot) i).data_area)
place_there e i at r there = (let p = parts_there i at r there in rw (p.key_size, p.data_size, there.1) refl)

-- where the first records end, and that the end mark has room behind them
pub record EndsThere (slot : List ℕ) (k end : ℕ) : Type 0 where
  pub place : end ≡ end_of_records (track_in slot) k
  pub room : end + 8 ≤ length slot

pub ends_there : {slot : List ℕ} (k at : ℕ) → Reads slot → 0 < k → StandsThere slot (k - 1) (Some at)
    → EndsThere slot k (at + (8 + key_length (drop at slot) + data_length (drop at slot)))
ends_there {slot} k at r some there =
    let t = track_in slot in
    let p = parts_there (k - 1) at r there in
    let one = place-one slot t r.spells (k - 1) there.0 in
    let at_place : at ≡ place t (k - 1) = there.1 ∙ offset_is slot t r.spells (k - 1) there.0 in
    let same : k - 1 + 1 ≡ k = omega arith in
    let place : at + (8 + key_length (drop at slot) + data_length (drop at slot)) ≡ end_of_records t k =
    omega (arith, at_place, p.key_size, p.data_size, rw same at one) in
    record { place = place; room = omega (arith, place, place-le slot t r.spells k) }

-- A slot that was made of a track.

pub indexed_slot : (size : ℕ) (t : Track) (offsets : List ℕ) (n : ℕ) → FitsSlot size t → (size - 5) / 8 ≤ length offsets → size < 2 ^ 32
    → n ≤ length offsets → take n offsets ≡ record_offsets t → IsIndexed (slot_of size t) offsets (Some n)
indexed_slot size t offsets n f room small within table =
    let reads = slot_of_reads size t f.home_address f.records in
    let same : track_in (slot_of size t) ≡ t = ap track_or_none reads in
    let long = length-slot_of size t f.room in
    record {
      room = rw long room;
      size = rw long small;
      read = record {
        read = rw same reads;
        spells = rw same (slot_of_spells size t f.home_address f.records);
        within = within;
        table = rw same table;
      };
    }

pub bare_fits : (size : ℕ) (ha : List ℕ) → length ha ≡ 5 → 13 ≤ size → FitsSlot size (bare_track ha)
bare_fits size ha five room = record {
  home_address = five;
  records = All-nil IsRecord;
  room =
      omega (arith, length-spelling (bare_track ha) five (All-nil IsRecord));
}

-- The buffer's records.

pub records_are : {slot offsets : List ℕ} {records : Option ℕ} {zeros_from : ℕ} {charged : Charged} {exact : Bool} (m : ℕ)
    → IsBuffer slot offsets records zeros_from charged exact → is_readable (track_of slot) ≡ true → m ≡ unwrap_or records 0
    → m ≡ length (track_in slot).records
records_are {slot} {offsets} {records = Some n} m x r e = e ∙ how_many x.indexed.read
records_are {slot} {offsets} {records = None} m x r e = absurd (let no : is_readable (track_of slot) ≡ false = x.indexed.read in cc)

-- where it would be behind the last one, it is the last one that a record is kept up to
pub kept_least : (rs : List Record) (n i m : ℕ) → n ≡ length rs → (n ≡ 0 → ⊥) → m ≡ min i (n - 1) → take (m + 1) rs ≡ take (i + 1) rs
kept_least rs n i m e some least = (let last : m + 1 ≡ min (i + 1) (length rs) = omega (arith, e, some, least) in
    rw last (take_min (i + 1) rs))

-- A new record.

zeros_behind : (count : List ℕ) (n : ℕ) → length count ≡ 8 → padded count (8 + n) ≡ count ++ replicate n 0
zeros_behind count n eight = (let e : 8 + n - length count ≡ n = omega (arith, eight) in rw e refl)

formatted_is : (slot : List ℕ) (before : Option ℕ) (after : Option Area) (count : List ℕ) → length count ≡ 8
    → kept_records before (track_in slot) ≡ kept (track_of slot) after
    → with_record before (record_at (count ++ replicate (body_length count) 0)) (track_in slot) ≡ formatted (track_of slot) after count
formatted_is slot before after count eight same = (let new : new_record count ≡ record_at (count ++ replicate (body_length count) 0) =
    ap record_at (zeros_behind count (body_length count) eight) in rw (same, new) refl)

-- the records that a new one leaves before it, by how many they are, and by its number
kept_take : (t : Track) (before : Option ℕ) → kept_records before t ≡ take (number_up_to before) t.records
kept_take t None = refl
kept_take t (Some i) = refl

kept_number : (n : ℕ) (t : Track) → kept_records (record_before (area_before n)) t ≡ take n t.records
kept_number zero t = refl
kept_number (suc i) t = (let e : i + 1 ≡ suc i = omega arith in rw e refl)

up_to_le : (t : Track) (before : Option ℕ) → ForSome before (λ i. i < length t.records) → number_up_to before ≤ length t.records
up_to_le t None lt = omega arith
up_to_le t (Some i) lt = omega (arith, lt i refl)

-- what is known of a new record of this number that fits
pub record Fitting (slot : List ℕ) (number : ℕ) (after : Option Area) (count : List ℕ) : Type 0 where
  pub spells : Spells slot (track_in slot)
  pub bytes : AreBytes count
  pub eight : length count ≡ 8
  pub no_mark : bytes_eq count end_mark ≡ false
  pub same : take number (track_in slot).records ≡ kept (track_of slot) after
  pub there : number ≤ length (track_in slot).records
  pub room : length (spelling (formatted (track_of slot) after count)) ≤ length slot

-- the count bytes of a record
pub record AreCountBytes (count : List ℕ) : Type 0 where
  pub bytes : AreBytes count
  pub eight : length count ≡ 8

-- the last record that a new one behind this area leaves before it
pub record StandsBefore (slot : List ℕ) (before : Option ℕ) (after : Option Area) : Type 0 where
  pub same : kept_records before (track_in slot) ≡ kept (track_of slot) after
  pub there : ForSome before (λ i. i < length (track_in slot).records)

-- what the code asked of the track as it sees it, and what it was answered: a record of these count bytes has room behind
-- the first ones, so many of them
pub record AnsweredRoom (slot : List ℕ) (model : DriveModel) (before : Option ℕ) (count : List ℕ) (n : ℕ) : Type 0 where
  pub seen : Track
  pub read : track_of slot ≡ Ok seen
  pub number : n ≡ number_up_to before
  pub room : has_room model (take n seen.records) (key_length count) (data_length count) ≡ true

-- a new record of these count bytes fits, by what the code asked of the track and was answered
pub fitting : (slot : List ℕ) (model : DriveModel) (before : Option ℕ) (after : Option Area) (count : List ℕ) (n : ℕ)
    → Spells slot (track_in slot) → AreCountBytes count → StandsBefore slot before after → AnsweredRoom slot model before count n
    → capacity_of model + 37 ≤ length slot → Fitting slot n after count × (fits_track model after count (track_of slot) ≡ true)
fitting slot model before after count n s b last asked size =
    let same_track : track_in slot ≡ asked.seen = ap track_or_none asked.read in
    let is = asked.number in
    let has : has_room model (kept_records before (track_in slot)) (key_length count) (data_length count) ≡ true =
    rw (kept_take (track_in slot) before, same_track, ← is) asked.room in
    let S : Track → Type 0 = λ x. length (spelling x) ≤ capacity_of model + 37 in
    let le = subst S (formatted_is slot before after count b.eight last.same) (leaves_room model (track_in slot) before (key_length count)
    (data_length count) s.home_address s.records has count (replicate (body_length count) 0) b.eight refl refl (length-replicate {A =
    ℕ} (body_length count) 0)) in (
      record {
        spells = s;
        bytes = b.bytes;
        eight = b.eight;
        no_mark = no_end_mark model (kept_records before (track_in slot)) count has;
        same = rw is (sym (kept_take (track_in slot) before) ∙ last.same);
        there = rw is (up_to_le (track_in slot) before last.there);
        room = omega (arith, le, size);
      },
      ap (λ (rs : List Record). has_room model rs (key_length count) (data_length count)) (sym last.same) ∙ has,
    )

module _ {slot : List ℕ} {number : ℕ} {after : Option Area} {count : List ℕ} (k : Fitting slot number after count) where
  -- the new record, the track with it, and the record before it
  abbrev zeros : List ℕ
  zeros = replicate (body_length count) 0

  abbrev made : Track
  made = formatted (track_of slot) after count

  abbrev before : Option ℕ
  before = record_before (area_before number)

  pub is_last : number ≡ length (kept (track_of slot) after)
  is_last = omega (arith, ap length k.same, length-take number (track_in slot).records, k.there)

  made_is : with_record before (record_at (count ++ zeros)) (track_in slot) ≡ made
  made_is = formatted_is slot before after count k.eight (kept_number number (track_in slot) ∙ k.same)

  begins_there : offset_behind (track_in slot) before ≡ end_of_records (track_in slot) number
  begins_there = ap (λ (rs : List Record). length (track_in slot).home_address + length (flat_map record_bytes rs))
      (kept_number number (track_in slot))

  makes_new : Makes count zeros
  makes_new = makes count zeros k.bytes (All-replicate (λ b. b < 256) (body_length count) 0 (omega arith)) k.eight k.no_mark
      (length-replicate (body_length count) 0)

  made_room : length (spelling (with_record before (record_at (count ++ zeros)) (track_in slot))) ≤ length slot
  made_room = (let S : Track → Type 0 = λ x. length (spelling x) ≤ length slot in subst S (sym made_is) k.room)

  pub format_room : end_of_records (track_in slot) number + 8 + body_length count + 8 ≤ length slot
  format_room =
      omega (
        arith,
        new_room slot (track_in slot) k.spells before count zeros k.eight makes_new made_room,
        begins_there,
        length-replicate {A = ℕ} (body_length count) 0,
      )

  pub format_slot : (let at = end_of_records (track_in slot) number in ended_at (overwritten (overwritten slot at count) (at + 8) zeros)
      (at + 8 + body_length count)) ≡ slot_of (length slot) made
  format_slot =
      let long : length zeros ≡ body_length count = length-replicate {A = ℕ} (body_length count) 0 in
      rw (← begins_there, long) (rw long at (new_slot slot (track_in slot) k.spells before count zeros k.eight makes_new made_room)
      ∙ ap (slot_of (length slot)) made_is)

  pub format_fits : FitsSlot (length slot) made
  format_fits =
      let first = kept_are before (track_in slot) k.spells.records in
      rw (← made_is) (record {
        home_address = k.spells.home_address;
        records = All-push IsRecord (kept_records before (track_in slot))
            (record_at (count ++ zeros)) first makes_new.is_record;
        room = made_room;
      })

  format_table : (offsets : List ℕ) (n at : ℕ) → take n offsets ≡ record_offsets (track_in slot) → number ≤ n → number < length offsets
      → at ≡ end_of_records (track_in slot) number
      → take (number + 1) (set offsets number at) ≡ record_offsets made
  format_table offsets n at table le lt e =
      let t = track_in slot in
      let first : take number offsets ≡ offsets_from 5 (take number t.records) = sym (take-take number n offsets le)
      ∙ ap (λ (xs : List ℕ). take number xs) table ∙ offsets-take number 5 t.records in
      let front : Track = record t { records = take number t.records } in
      let spelled = length-spelling front k.spells.home_address (All-take IsRecord number t.records k.spells.records) in
      let sum : 5 + sum_by record_size (take number t.records) ≡ at =
      omega (
        arith,
        e,
        spelled,
        length-append t.home_address (flat_map record_bytes (take number t.records) ++ end_mark),
        length-append (flat_map record_bytes (take number t.records)) end_mark,
      ) in
      take_more_set offsets number at lt ∙ ap (λ (xs : List ℕ). xs ++ at ∷ []) first
      ∙ rw (← sum) (sym (offsets-append 5 (take number t.records) (record_at (count ++ zeros) ∷ [])))
      ∙ ap (λ (rs : List Record). offsets_from 5 (rs ++ record_at (count ++ zeros) ∷ [])) (sym (kept_number number t))
      ∙ ap record_offsets made_is

  pub format_indexed : (offsets : List ℕ) (records : Option ℕ) (at : ℕ) → IsIndexed slot offsets records
      → is_readable (track_of slot) ≡ true → at ≡ end_of_records (track_in slot) number
      → IsIndexed (slot_of (length slot) made) (set offsets number at) (Some (number + 1))
  format_indexed offsets None at x r e = absurd (let no : is_readable (track_of slot) ≡ false = x.read in cc)
  format_indexed offsets (Some n) at x r e =
      let room : number + 1 ≤ length offsets = omega (arith, few_records slot (track_in slot) k.spells, k.there, x.room) in
      let size = length-set offsets number at in
      indexed_slot (length slot) made (set offsets number at) (number + 1) format_fits (omega (arith, x.room, size)) x.size
      (omega (arith, room, size))
      (format_table offsets n at x.read.table (omega (arith, k.there, how_many x.read)) (omega (arith, room)) e)

  -- the kept records stay, and the new one stands where they end
  kept_made : take number made.records ≡ take number (track_in slot).records
  kept_made = take_at (kept (track_of slot) after) (new_record count ∷ []) number (sym is_last) ∙ sym k.same

  pub format_keeps : take number (track_in (slot_of (length slot) made)).records ≡ take number (track_in slot).records
  format_keeps = ap (λ (x : Track). take number x.records)
      (ap track_or_none (slot_of_reads (length slot) made format_fits.home_address format_fits.records)) ∙ kept_made

  pub format_place : (at : ℕ) → at ≡ end_of_records (track_in slot) number → IsPlaceOf extent.KeyAndData made (Of part.Data number)
      (record { start = at + 8; len = body_length count })
  format_place at at_is = λ last.
      (let t = track_in slot in
      let offset : slice_index (record_offsets made) number ≡ at =
      offset_is (slot_of (length slot) made) made (slot_of_spells (length slot) made format_fits.home_address format_fits.records) number
      last
      ∙ ap (λ (rs : List Record). length t.home_address + length (flat_map record_bytes rs)) kept_made ∙ sym at_is in
      let there : record_in made number ≡ record_at (count ++ zeros) =
      get_or_at (kept (track_of slot) after) (new_record count) [] no_record number (sym is_last)
      ∙ ap record_at (zeros_behind count (body_length count) k.eight) in
      let all : length (count ++ zeros) ≡ 8 + body_length count = omega (
        arith,
        length-append count zeros,
        k.eight,
        length-replicate {A =
            ℕ} (body_length count) 0,
      ) in
      let size : 8 + (length (record_in made number).key_area + length (record_in made number).data_area) ≡ 8 + body_length count =
      ap record_size there ∙ sym (length-record_bytes (record_at (count ++ zeros)) makes_new.is_record) ∙ ap length makes_new.all ∙ all in
      let long : length (record_in made number).key_area + length (record_in made number).data_area ≡ body_length count =
      omega (arith, size) in
      rw (offset, long) refl)

  -- the place that the new record has
  pub place_is : (w : Window) → IsPlaceOf extent.KeyAndData made (Of part.Data number) w
      → w ≡ record { start = end_of_records (track_in slot) number + 8; len = body_length count }
  place_is w p =
      let last : number < length made.records = omega (arith, is_last, length-append (kept (track_of slot) after) (new_record count ∷ []))
      in
      p last ∙ sym (format_place (end_of_records (track_in slot) number) refl last)

  -- the record that begins with these bytes
  pub written_slot : (w : Window) (bytes : List ℕ) → w ≡ record {
    start = end_of_records (track_in slot) number + 8;
    len =
        body_length count;
  } → length bytes ≤ w.len
      → ended_at (overwritten (overwritten slot (w.start - 8) count) w.start (padded bytes w.len)) (w.start + w.len)
      ≡ overwritten (slot_of (length slot) made) w.start bytes
  written_slot w bytes is le =
      let at = end_of_records (track_in slot) number in
      let n = body_length count in
      let e : at + 8 - 8 ≡ at = omega arith in
      let short : length bytes ≤ n = rw is at le in
      let long = length-overwritten slot at count (omega (arith, k.eight, format_room)) in
      rw (is, e) (sym (zeros_first (overwritten slot at count) (at + 8) n bytes (at + 8 + n) short (omega arith)
      (omega (arith, long, format_room))) ∙ ap (λ (x : List ℕ). overwritten x (at + 8) bytes) format_slot)

-- Other bytes in a record's areas.

-- a track fits a slot that has room up to its end mark
fits_by : (size : ℕ) (t : Track) → length t.home_address ≡ 5 → All IsRecord t.records → end_offset t + 8 ≤ size → FitsSlot size t
fits_by size t ha are le = record {
  home_address = ha;
  records = are;
  room = omega (
    arith,
    le,
    length-append t.home_address (flat_map record_bytes t.records ++ end_mark),
    length-append (flat_map record_bytes t.records) end_mark,
  );
}

-- and the slot that spells it
pub spelled_fits : (slot : List ℕ) (t : Track) → Spells slot t → FitsSlot (length slot) t
spelled_fits slot t s = fits_by (length slot) t s.home_address s.records (omega (arith, place-le slot t s (length t.records), end_is t))

pub record IsUpdated (slot : List ℕ) (t : Track) (off : ℕ) (body : List ℕ) (t' : Track) : Type 0 where
  pub within : off + length body ≤ end_offset t
  pub law : ended_at (overwritten slot off body) (end_offset t) ≡ slot_of (length slot) t'
  pub fits : FitsSlot (length slot) t'
  pub lengths : lengths_on t' ≡ lengths_on t

-- A track with another record of the same lengths in place of one. Its premises are many, since two extents come here,
-- each by facts of its own.
updated_by : (slot : List ℕ) (t : Track) (i off : ℕ) (body : List ℕ) (r : Record) → Spells slot t → i < length t.records
    → off + length body ≤ end_offset t → IsRecord r → lengths_of r ≡ lengths_of (record_in t i)
    → ended_at (overwritten slot off body) (end_offset t) ≡ slot_of (length slot) (record t { records = set t.records i r })
    → IsUpdated slot t off body (record t { records = set t.records i r })
updated_by slot t i off body r s lt within is same law =
    let size : record_size r ≡ record_size (record_in t i) = ap (λ (l : ℕ × ℕ). 8 + (l.0 + l.1)) same in
    let last = changed_end slot t s i lt r is size in
    record {
      within = within;
      law = law;
      fits = fits_by (length slot) (record t { records = set t.records i r }) s.home_address (All-set IsRecord t.records i r is s.records)
          (omega (arith, last, place-le slot t s (length t.records), end_is t));
      lengths = map-set_same lengths_of t.records i r no_record same;
    }

-- The window of an update, and the record with other bytes in it.
abbrev pub update_offset : AreaBytes → Track → ℕ → ℕ
update_offset extent.KeyAndData t i = slice_index (record_offsets t) i + 8
update_offset _ t i = data_offset t i

abbrev pub update_length : AreaBytes → Record → ℕ
update_length extent.KeyAndData r = length r.key_area + length r.data_area
update_length _ r = length r.data_area

-- how long bytes are with zeros behind them, and where there are none
pub length-padded : (b : List ℕ) (n : ℕ) → length b ≤ n → length (padded b n) ≡ n
length-padded b n le = omega (arith, length-append b (replicate (n - length b) 0), length-replicate {A = ℕ} (n - length b) 0, le)

pub padded_whole : (b : List ℕ) (n : ℕ) → length b ≡ n → padded b n ≡ b
padded_whole b n e = (let z : n - length b ≡ 0 = omega (arith, e) in rw z (append-nil b))

-- a record that gets all the bytes of its area; what is asked for that is a premise each, since it is cited of a slot
-- that is made of a track, and of a slot and a window
pub update_is : (e : AreaBytes) (slot : List ℕ) (t : Track) (part : RecordPart) (i : ℕ) (body : List ℕ) → IsUpdate e → Spells slot t
    → i < length t.records → length body ≡ update_length e (record_in t i)
    → IsUpdated slot t (update_offset e t i) body (with_record_changed (replaced e body) (Of part i) t)
update_is extent.Data slot t part i body u s lt same =
    rw (padded_whole body (length (record_in t i).data_area) same)
    (updated_by slot t i (data_offset t i) body (record (record_in t i) { data_area = body }) s lt
    (omega (arith, record-before slot t s i lt, same)) (data_is_record slot t s i lt body same) (ap (λ (n : ℕ). let l : ℕ × ℕ =
    (length (record_in t i).key_area, n) in l) same) (data_slot slot t s i lt body same))
update_is extent.KeyAndData slot t part i body u s lt same =
    let l = body_lengths slot t s i lt body same in
    rw (padded_whole body (length (record_in t i).key_area + length (record_in t i).data_area) same)
    (updated_by slot t i (slice_index (record_offsets t) i + 8) body (with_body body (record_in t i)) s lt
    (omega (arith, record-before slot t s i lt, same)) (body_is_record slot t s i lt body same) (rw (l.key_area, l.data_area) refl)
    (key_data_slot slot t s i lt body same))
update_is e slot t part i body u s lt same = absurd u

pub update_place : (e : AreaBytes) (t : Track) (part : RecordPart) (i : ℕ) (w : Window) → IsUpdate e → i < length t.records
    → IsPlaceOf e t (Of part i) w → (w.start ≡ update_offset e t i) × (w.len ≡ update_length e (record_in t i))
update_place extent.Data t part i w u lt p = (let e = p lt in (rw e (omega arith), rw e refl))
update_place extent.KeyAndData t part i w u lt p = (let e = p lt in (rw e refl, rw e refl))
update_place e t part i w u lt p = absurd u

-- bytes with the zeros behind them replace as the bytes alone do
padded_replaces : (e : AreaBytes) (r : Record) (b : List ℕ) → IsUpdate e → length b ≤ update_length e r
    → replaced e (padded b (update_length e r)) r ≡ replaced e b r
padded_replaces extent.Data r b u le = (let n = length r.data_area in rw (padded_whole (padded b n) n (length-padded b n le)) refl)
padded_replaces extent.KeyAndData r b u le = (let n = length r.key_area + length r.data_area in
    rw (padded_whole (padded b n) n (length-padded b n le)) refl)
padded_replaces e r b u le = absurd u

pub padded_changes : (e : AreaBytes) (part : RecordPart) (i : ℕ) (t : Track) (b : List ℕ) → IsUpdate e
    → length b ≤ update_length e (record_in t i)
    → with_record_changed (replaced e (padded b (update_length e (record_in t i)))) (Of part i) t ≡ with_record_changed (replaced e b)
    (Of part i) t
padded_changes e part i t b u le = ap (λ (x : Record). let y : Track = record t { records = set t.records i x } in
    y) (padded_replaces e (record_in t i) b u le)

-- a record whose bytes are replaced by these, and zeros behind them
pub replaces : (slot : List ℕ) (t : Track) (e : AreaBytes) (a : Area) (w : Window) (bytes : List ℕ) → Spells slot t → IsUpdateAt t e a w
    → length bytes ≤ w.len
    → IsUpdated slot t w.start (padded bytes w.len) (with_record_changed (replaced e bytes) a t)
replaces slot t e HomeAddress w bytes s at le = absurd at.there
replaces slot t e (Of part i) w bytes s at le =
    let n = update_length e (record_in t i) in
    let place = update_place e t part i w at.update at.there at.place in
    let short : length bytes ≤ n = omega (arith, le, place.1) in
    let U : Track → Type 0 = λ x. IsUpdated slot t (update_offset e t i) (padded bytes n) x in
    rw (place.0, place.1) (subst U (padded_changes e part i t bytes at.update short)
    (update_is e slot t part i (padded bytes n) at.update s at.there (length-padded bytes n short)))

-- A record by its number.

-- what is known of a record that can be made by its number, and of its place
pub record Made (slot : List ℕ) (number : ℕ) (count : List ℕ) (w : Window) : Type 0 where
  pub fitting : Fitting slot number (area_before number) count
  pub place : w ≡ record { start = end_of_records (track_in slot) number + 8; len = body_length count }
  pub start : w.start ≡ end_of_records (track_in slot) number + 8
  pub len : w.len ≡ body_length count
  pub room : w.start + w.len + 8 ≤ length slot
  pub few : 13 + 8 * number ≤ length slot
  pub size : length slot < 2 ^ 32

-- a new record in a slot beside its table
pub made_by : {slot offsets : List ℕ} {records : Option ℕ} {bytes : List ℕ} (number : ℕ) (count : List ℕ) (w : Window)
    → IsIndexed slot offsets records → is_readable (track_of slot) ≡ true → AreCountBytes count
    → CanMake (length slot) (track_of slot) number count w bytes → Made slot number count w
made_by {slot} number count w x r b can =
    let k : Fitting slot number (area_before number) count = record {
      spells = (reads_indexed x r).spells;
      bytes = b.bytes;
      eight = b.eight;
      no_mark = can.no_end_mark;
      same = sym (kept_number number (track_in slot));
      there = can.there;
      room = can.fits.room;
    } in
    let is = place_is k w can.place in
    let start = ap (λ (w : Window). w.start) is in
    let len = ap (λ (w : Window). w.len) is in
    let few = few_records slot (track_in slot) k.spells in
    record {
      fitting = k;
      place = is;
      start = start;
      len = len;
      room = omega (arith, start, len, format_room k);
      few =
          omega (arith, can.there, few);
      size = x.size;
    }

-- the records that are kept are the first ones, so many of them
kept_first : (b : Option ℕ) (t : Track) → take (length (kept_records b t)) t.records ≡ kept_records b t
kept_first None t = refl
kept_first (Some i) t = (let m : length (take (i + 1) t.records) ≡ min (i + 1) (length t.records) =
    omega (arith, length-take (i + 1) t.records) in rw m (take_min (i + 1) t.records))

-- the record behind an area is that of its number
pub made_formatted : (t : Sighted) (after : Option Area) (number : ℕ) (count : List ℕ) → number ≡ length (kept t after)
    → made_on t number count ≡ formatted t after count
made_formatted t after number count e =
    let same : kept_records (record_before (area_before number)) (track_or_none t) ≡ kept t after = kept_number number (track_or_none t)
    ∙ rw e (kept_first (record_before after) (track_or_none t)) in
    ap (λ (rs : List Record). let y : Track = record (track_or_none t) { records = rs ++ new_record count ∷ [] } in y) same

pub kept_le : (t : Sighted) (after : Option Area) → length (kept t after) ≤ length (track_or_none t).records
kept_le t after = omega (
  arith,
  ap length (kept_first (record_before after) (track_or_none t)),
  length-take (length (kept t after))
      (track_or_none t).records,
)
