-- Where the records of a slot stand.
use Rattle.std.proofs.Common.{◌≡◌, ◌∙◌, ap, sym, refl, ℕ, suc, ◌+◌, ◌-◌, ◌*◌, ◌≤◌, ◌<◌, List, [], ◌∷◌, ◌++◌, length, drop, take, get_or}
use Rattle.std.proofs.Common.{slice_index, length-drop, length-append, drop-drop, append_assoc, Option, Some, Result, Ok, Err, IsOk, All}
use Rattle.std.proofs.Common.{IfSome, Bor, Fits, w8, arith}
use Rattle.std.proofs.lemmas.Grind.{get_or_default_zero}
use Rattle.std.proofs.lemmas.List.{take_at, take_rest}
use Rattle.std.proofs.lemmas.Option.{MatchOption-at_some}
use Rattle.std.specs.Prelude.{⊤, flat_map}
use Rattle.ckd_track.specs.declared.fault.SlotFault.{SlotFault}
use Rattle.ckd_track.specs.Track.{Record, Track, IsRecord, BeginsWith, Spells, end_mark, record_bytes, count_area, record_size, body_length}
use Rattle.ckd_track.specs.Track.{data_length, track_of, track_in, record_in, track_or_none, record_offsets, offsets_from, offsets_of}
use Rattle.ckd_track.specs.Track.{offsets_on, number_of_records}
use Rattle.ckd_track.proofs.Spelled.{reads_back}
use Rattle.ckd_track.proofs.Laws.{read_is_spelled, long_enough}
use Rattle.ckd_track.proofs.Places.{behind, offset_is, drop-place, behind-one, record_is, place-one}

-- the record stands at the offset, and behind it is room for an end mark
pub record StandsAt (slot : List ℕ) (at : ℕ) (r : Record) : Type 0 where
  pub is_record : IsRecord r
  pub rest : List ℕ
  pub bytes : drop at slot ≡ record_bytes r ++ rest
  pub room : 8 ≤ length rest

-- the records of a slot that spells a track stand at the track's offsets
pub stands : (slot : List ℕ) (t : Track) (i : ℕ) → Spells slot t → i < length t.records → StandsAt slot (slice_index (record_offsets t) i)
    (record_in t i)
stands slot t i is lt = record {
  is_record = record_is slot t is i lt;
  rest = behind slot t is (i + 1);
  bytes = rw (offset_is slot t is i lt) (drop-place slot t is i ∙ behind-one slot t is i lt);
  room = omega (arith, length-append {A = ℕ});
}

-- the parts of a record that stands at an offset
pub record PartsAt (slot : List ℕ) (at : ℕ) (r : Record) : Type 0 where
  pub within : at + record_size r + 8 ≤ length slot
  pub count : take 8 (drop at slot) ≡ count_area r
  pub key_size : slice_index (drop at slot) 5 ≡ length r.key_area
  pub data_size : data_length (drop at slot) ≡ length r.data_area
  pub key_area : take (length r.key_area) (drop (at + 8) slot) ≡ r.key_area
  pub data_area : take (length r.data_area) (drop (at + 8 + length r.key_area) slot) ≡ r.data_area

pub parts_at : (slot : List ℕ) (at : ℕ) (r : Record) → StandsAt slot at r → PartsAt slot at r
parts_at slot at r s =
    let back = reads_back r s.rest s.is_record in
    let size : body_length (drop at slot) ≡ length r.key_area + length r.data_area = rw s.bytes back.size in
    let key_size : slice_index (drop at slot) 5 ≡ length r.key_area = rw s.bytes back.key_size in
    let further : at + 8 + length r.key_area ≡ at + (8 + length r.key_area) = omega arith in
    record {
      within = omega (arith, ap length s.bytes, back.long, s.room, length-drop at slot);
      count = rw s.bytes back.count;
      key_size = key_size;
      data_size = omega (arith, size, key_size);
      key_area = rw (← (drop-drop 8 at slot), s.bytes) back.the_key;
      data_area = rw (further, ← (drop-drop (8 + length r.key_area) at slot), s.bytes) back.the_body;
    }

pub length-offsets_from : (at : ℕ) (rs : List Record) → length (offsets_from at rs) ≡ length rs
length-offsets_from at [] = refl
length-offsets_from at (r ∷ rs) = ap suc (length-offsets_from (at + record_size r) rs)

pub first_offset : (at : ℕ) (rs : List Record) → 0 < length rs → slice_index (offsets_from at rs) 0 ≡ at
first_offset at [] some = absurd (omega arith)
first_offset at (r ∷ rs) some = refl

-- Slots that are read.

offsets_by : (read : Result Track SlotFault) (offsets : List ℕ) → offsets_on read ≡ Ok offsets → (read ≡ Ok (track_or_none read))
    × (offsets ≡ record_offsets (track_or_none read))
offsets_by (Ok t) offsets e = (refl, let same : offsets ≡ record_offsets t = cc in same)
offsets_by (Err fault) offsets e = absurd cc

-- a slot with offsets is readable
pub has_offsets : (slot offsets : List ℕ) → offsets_of slot ≡ Ok offsets → (track_of slot ≡ Ok (track_in slot))
    × (offsets ≡ record_offsets (track_in slot))
has_offsets slot offsets e = offsets_by (track_of slot) offsets e

-- and one whose records were counted
pub has_number : (read : Result Track SlotFault) (n : ℕ) → Ok n ≡ number_of_records read → (read ≡ Ok (track_or_none read))
    × (n ≡ length (track_or_none read).records)
has_number (Ok t) n e = (refl, let same : n ≡ length t.records = cc in same)
has_number (Err fault) n e = absurd cc

pub no_number : (read : Result Track SlotFault) (fault : SlotFault) → Err fault ≡ number_of_records read → read ≡ Err fault
no_number (Ok t) fault e = absurd cc
no_number (Err other) fault e = let same : other ≡ fault = cc in ap Err same

-- and one that has records
pub has_record : (read : Result Track SlotFault) (i : ℕ) → i < length (track_or_none read).records → IsOk read
has_record (Ok t) i lt = refl
has_record (Err fault) i lt = absurd (omega (arith, lt))

-- the bytes of a slice of bytes are below 256
pub are_bytes : (s : List ℕ) → ((i : ℕ) → Fits w8 (get_or s i 0)) → All (λ b. b < 256) s
are_bytes s fit k d lt = rw (get_or_default_zero s k d lt) (omega (arith, (fit k).fits))

-- a readable slot of bytes spells its track
pub whole : (s : List ℕ) → ((i : ℕ) → Fits w8 (get_or s i 0)) → IsOk (track_of s) → Spells s (track_in s)
whole s fit ok = read_is_spelled s (track_in s) (are_bytes s fit) (by (track_of s) ok)
  where
    by : (read : Result Track SlotFault) → IsOk read → read ≡ Ok (track_or_none read)
    by (Ok t) ok = refl
    by (Err fault) ok = absurd cc

pub with_record : (s : List ℕ) → ((i : ℕ) → Fits w8 (get_or s i 0)) → (i : ℕ) → i < length (track_in s).records → Spells s (track_in s)
with_record s fit i lt = whole s fit (has_record (track_of s) i lt)

-- the parts of a record at its offset, in a slot of bytes
pub parts_in : (slot : List ℕ) (i at : ℕ) → ((i : ℕ) → Fits w8 (get_or slot i 0)) → at ≡ slice_index (record_offsets (track_in slot)) i
    → i < length (track_in slot).records → PartsAt slot at (record_in (track_in slot) i)
parts_in slot i at fit e lt = rw e (parts_at slot _ _ (stands slot (track_in slot) i (with_record slot fit i lt) lt))

-- the record lies within the slot, with an end mark behind it; and so by its count area
pub record_within : (slot : List ℕ) (i at : ℕ) → ((i : ℕ) → Fits w8 (get_or slot i 0)) → at ≡ slice_index (record_offsets (track_in slot)) i
    → i < length (track_in slot).records → at + record_size (record_in (track_in slot) i) + 8 ≤ length slot
record_within slot i at fit e lt = (parts_in slot i at fit e lt).within

pub bytes_within : (slot : List ℕ) (i at : ℕ) → ((i : ℕ) → Fits w8 (get_or slot i 0)) → at ≡ slice_index (record_offsets (track_in slot)) i
    → i < length (track_in slot).records → at + (8 + body_length (drop at slot)) + 8 ≤ length slot
bytes_within slot i at fit e lt = let parts = parts_in slot i at fit e lt in omega (arith, parts.within, parts.key_size, parts.data_size)

-- its key length, as the bytes there give it
pub key_at : (slot : List ℕ) (i at : ℕ) → ((i : ℕ) → Fits w8 (get_or slot i 0)) → at ≡ slice_index (record_offsets (track_in slot)) i
    → i < length (track_in slot).records
    → length (record_in (track_in slot) i).key_area ≡ slice_index (take (length slot - at) (drop at slot)) 5
key_at slot i at fit e lt = rw (take_rest slot at) (sym (parts_in slot i at fit e lt).key_size)

-- the next record's offset
pub next_is : (slot : List ℕ) (i at size : ℕ) → ((i : ℕ) → Fits w8 (get_or slot i 0)) → at ≡ slice_index (record_offsets (track_in slot)) i
    → i + 1 < length (track_in slot).records
    → size ≡ 8 + body_length (drop at slot) → at + size ≡ slice_index (record_offsets (track_in slot)) (i + 1)
next_is slot i at size fit e lt is =
    let t = track_in slot in
    let spells = with_record slot fit i (omega (arith, lt)) in
    let parts = parts_in slot i at fit e (omega (arith, lt)) in
    omega (
      arith,
      e,
      is,
      parts.key_size,
      parts.data_size,
      offset_is slot t spells i (omega (arith, lt)),
      offset_is slot t spells (i + 1) lt,
      place-one slot t spells i (omega (arith, lt)),
    )

-- what a walk to a record by its number asks
pub ruleset walking = (first_offset, bytes_within, next_is)

-- the bytes at a record's offset, by a view's value
pub begins_in : (slot : List ℕ) (t : Track) (i at : ℕ) → at ≡ slice_index (record_offsets t) i → track_in slot ≡ t
    → Spells slot (track_in slot) → i < length t.records
    → BeginsWith (take (length slot - at) (drop at slot)) (record_in t i)
begins_in slot t i at e is spelled lt =
    let s : StandsAt slot at (record_in t i) = rw e (stands slot t i (rw is at spelled) lt) in
    let back = reads_back (record_in t i) s.rest s.is_record in
    rw (take_rest slot at, s.bytes) (record {
      is_record = s.is_record;
      same = back.same;
      count = back.count;
      room =
          omega (arith, back.long, back.size, s.room);
    })

pub begins_within : (slot : List ℕ) (t : Track) (i at : ℕ) → at ≡ slice_index (record_offsets t) i → track_in slot ≡ t
    → Spells slot (track_in slot) → i < length t.records → at ≤ length slot
begins_within slot t i at e is spelled lt =
    omega (arith, (parts_at slot at (record_in t i) (rw e (stands slot t i (rw is at spelled) lt))).within)

-- the offsets of a view's table
pub table_is : (slot : List ℕ) (offsets : Option (Bor (List ℕ))) (o : Bor (List ℕ)) → offsets ≡ Some o
    → IfSome offsets (λ o. offsets_of slot ≡ Ok o.now) → o.now ≡ record_offsets (track_in slot)
table_is slot offsets o is table =
    (has_offsets slot o.now (MatchOption-at_some ⊤ (λ (o : Bor (List ℕ)). offsets_of slot ≡ Ok o.now) o is table)).1

pub home_is : (slot : List ℕ) (t : Track) → Spells slot t → take 5 slot ≡ t.home_address
home_is slot t is = ap (take 5) (is.bytes ∙ append_assoc t.home_address (flat_map record_bytes t.records ++ end_mark) is.rest)
    ∙ take_at t.home_address _ 5 is.home_address

-- by a view's value
pub home_in : (slot : List ℕ) (t : Track) → track_in slot ≡ t → Spells slot (track_in slot) → take 5 slot ≡ t.home_address
home_in slot t is spelled = home_is slot t (rw is at spelled)

-- the records of a slot, of eight bytes or more each, and the end mark are in the slot
pub few_records : (slot : List ℕ) (t : Track) → Spells slot t → 13 + 8 * length t.records ≤ length slot
few_records slot t is = omega (arith, long_enough t.records is.records, ap length is.bytes, is.home_address, length-append {A = ℕ})

-- what a table of offsets shows
pub table_spells : (slot offsets : List ℕ) → ((i : ℕ) → Fits w8 (get_or slot i 0)) → offsets_of slot ≡ Ok offsets
    → Spells slot (track_in slot)
table_spells slot offsets fit e = read_is_spelled slot (track_in slot) (are_bytes slot fit) (has_offsets slot offsets e).0

pub table_read : (slot offsets : List ℕ) → offsets_of slot ≡ Ok offsets → track_of slot ≡ Ok (track_in slot)
table_read slot offsets e = (has_offsets slot offsets e).0

pub table_counts : (slot offsets : List ℕ) → offsets_of slot ≡ Ok offsets → length offsets ≡ length (track_in slot).records
table_counts slot offsets e = ap length (has_offsets slot offsets e).1 ∙ length-offsets_from 5 (track_in slot).records

pub ruleset viewing = (table_spells, table_read, table_counts)

-- what a look into a table asks
pub ruleset placing = (table_is, few_records, length-offsets_from)
