-- A slot that spells a track is read as that track, and what is read is what is spelled.
use Rattle.std.proofs.Common.{◌≡◌, ◌∙◌, ap, sym, refl, add-zero, inl, inr, ℕ, zero, suc, ◌+◌, ◌-◌, ◌*◌, ◌/◌, ◌%◌, ◌≤◌, ◌<◌, ◌⊎◌, ◌↔◌, List}
use Rattle.std.proofs.Common.{[], ◌∷◌, ◌++◌, length, drop, take, slice_index, flat_map, length-drop, length-take, length-append, drop-drop}
use Rattle.std.proofs.Common.{append_assoc, Option, Some, None, Result, Ok, Err, All, arith}
use Rattle.std.proofs.lemmas.Grind.{common_steps}
use Rattle.std.proofs.lemmas.List.{take-append-drop, take_at, drop_at, take_more}
use Rattle.std.proofs.lemmas.List.Elements.{All-nil, All-cons, All-head, All-tail, All-drop}
use Rattle.std.proofs.lemmas.Bool.{cases_lt}
use Rattle.std.proofs.lemmas.Slice.Eq.{bytes_eq-Decides}
use Rattle.ckd_track.specs.declared.fault.SlotFault.{SlotFault}
use Rattle.ckd_track.specs.declared.fault.SlotFault.TheVariants.{NoEnd, RecordPastEnd}
use Rattle.ckd_track.specs.Track.{Record, Track, IsRecord, Spells, HasFault, RecordsUpTo, end_mark, record_bytes, count_area, records_from}
use Rattle.ckd_track.specs.Track.{followed_by, behind_home_address, record_at, record_size, body_length, key_length, data_length, size_at}
use Rattle.ckd_track.specs.Track.{track_of}
use Rattle.ckd_track.proofs.Spelled.{reads_back}
use Rattle.ckd_track.proofs.Reading.{IsSize, size_tells, told_size, size_of_record_at, read_on, read_step, short_slot, whole_slot}

abbrev pub AreBytes : List ℕ → Type 0
AreBytes = All (λ b. b < 256)

-- Bytes that a record is read from are that record's.

first_eight : (bytes : List ℕ) → 8 ≤ length bytes → slice_index bytes 7 < 256
    → take 5 bytes ++ key_length bytes ∷ data_length bytes / 256 ∷ data_length bytes % 256 ∷ [] ≡ take 8 bytes
first_eight bytes long small =
    let high : data_length bytes / 256 ≡ slice_index bytes 6 = omega arith in
    let low : data_length bytes % 256 ≡ slice_index bytes 7 = omega arith in
    grind (arith, common_steps, take_more bytes 5 0, take_more bytes 6 0, take_more bytes 7 0)

three_parts : (n k d : ℕ) (bytes : List ℕ) → ((take n bytes ++ take k (drop n bytes)) ++ take d (drop (n + k) bytes))
    ++ drop (n + (k + d)) bytes ≡ bytes
three_parts n k d bytes =
    let e : n + (k + d) ≡ n + k + d = omega arith in
    rw e (simp (append_assoc, ← drop-drop, take-append-drop))

-- bytes that begin with a record are its bytes and the rest
pub record BeginsWithRecord (bytes : List ℕ) (size : ℕ) : Type 0 where
  pub is_record : IsRecord (record_at bytes)
  pub bytes_are : bytes ≡ record_bytes (record_at bytes) ++ drop size bytes

pub begins_with_record : (bytes : List ℕ) (size : ℕ) → AreBytes bytes → IsSize bytes size → BeginsWithRecord bytes size
begins_with_record bytes size small is =
    let r = record_at bytes in
    let fits : 8 + body_length bytes ≤ length bytes = omega (arith, is.is, is.fits) in
    let key : length r.key_area ≡ key_length bytes = omega (arith, length-take {A = ℕ}, length-drop {A = ℕ}) in
    let body : length r.data_area ≡ data_length bytes = omega (arith, length-take {A = ℕ}, length-drop {A = ℕ}) in
    let g : slice_index bytes 6 < 256 = small 6 0 (omega arith) in
    let h : slice_index bytes 7 < 256 = small 7 0 (omega arith) in
    let count : count_area r ≡ take 8 bytes = rw (key, body) (first_eight bytes (omega arith) h) in
    let k : 8 + key_length bytes - 8 ≡ key_length bytes = omega arith in
    let d : 8 + body_length bytes - (8 + key_length bytes) ≡ data_length bytes = omega arith in
    record {
      is_record = record {
        id = omega (arith, length-take {A = ℕ});
        key_area = rw key (small 5 0 (omega arith));
        data_area = rw body (omega arith);
        no_end_mark = rw count is.no_end_mark;
      };
      bytes_are = rw (is.is, count) (sym (rw (k, d) (three_parts 8 (key_length bytes) (data_length bytes) bytes)));
    }

-- Records that stand one after another, and behind them the end mark or a fault.

abbrev stopped : Option SlotFault → Result (Option ℕ) SlotFault
stopped None = Ok None
stopped (Some fault) = Err fault

-- what is read of these records, by what stands behind them
abbrev outcome : List Record → Option SlotFault → Result (List Record) SlotFault
outcome rs None = Ok rs
outcome rs (Some fault) = Err fault

record Parsed (at : ℕ) (bytes : List ℕ) : Type 0 where
  records : List Record
  rest : List ℕ
  stop : Option SlotFault
  are_records : All IsRecord records
  bytes_are : bytes ≡ flat_map record_bytes records ++ rest
  stops : size_at (at + length (flat_map record_bytes records)) rest ≡ stopped stop

at_once : (at : ℕ) (bytes : List ℕ) (stop : Option SlotFault) → size_at at bytes ≡ stopped stop → Parsed at bytes
at_once at bytes stop stops = record {
  records = [];
  rest = bytes;
  stop = stop;
  are_records = All-nil IsRecord;
  bytes_are = refl;
  stops =
      rw add-zero stops;
}

parsed_by : (at : ℕ) (bytes : List ℕ) (there : Result (Option ℕ) SlotFault) → size_at at bytes ≡ there → AreBytes bytes
    → ((size : ℕ) → IsSize bytes size → Parsed (at + size) (drop size bytes)) → Parsed at bytes
parsed_by at bytes (Ok None) e small go = at_once at bytes None e
parsed_by at bytes (Err fault) e small go = at_once at bytes (Some fault) e
parsed_by at bytes (Ok (Some size)) e small go =
    let is = size_tells at bytes (Ok (Some size)) e in
    let r = record_at bytes in
    let begins = begins_with_record bytes size small is in
    let p = go size is in
    let own : length (record_bytes r) ≡ size = (reads_back r [] begins.is_record).own ∙ size_of_record_at size bytes is in
    let far : at + size + length (flat_map record_bytes p.records) ≡ at + length (record_bytes r ++ flat_map record_bytes p.records) =
    omega (arith, own, length-append (record_bytes r) (flat_map record_bytes p.records)) in
    record {
      records = r ∷ p.records;
      rest = p.rest;
      stop = p.stop;
      are_records = All-cons IsRecord r p.records begins.is_record p.are_records;
      bytes_are = begins.bytes_are ∙ ap (λ (xs : List ℕ). record_bytes r ++ xs) p.bytes_are
          ∙ sym (append_assoc (record_bytes r) (flat_map record_bytes p.records) p.rest);
      stops = rw far at p.stops;
    }

-- all bytes are such
parsed : (most at : ℕ) (bytes : List ℕ) → AreBytes bytes → length bytes ≤ 8 * most → Parsed at bytes
parsed zero at bytes small far = at_once at bytes (Some (NoEnd at)) (told_size at bytes (Err (NoEnd at)) (refl, omega arith))
parsed (suc most) at bytes small far = parsed_by at bytes (size_at at bytes) refl small (λ size is.
    parsed most (at + size) (drop size bytes) (All-drop (λ b. b < 256) size bytes small) (omega (arith, is.is, length-drop size bytes)))

read_one : (most at : ℕ) (r : Record) (others : List ℕ) → IsRecord r → records_from (suc most) at (record_bytes r ++ others) ≡ followed_by r
    (records_from most (at + record_size r) others)
read_one most at r others is =
    let back = reads_back r others is in
    let size : 8 + body_length (record_bytes r ++ others) ≡ record_size r = omega (arith, back.size) in
    let there = told_size at (record_bytes r ++ others) (Ok (Some (record_size r))) (record {
      is = sym size;
      fits =
          omega (arith, back.long);
      no_end_mark = back.no_end_mark;
    }) in
    read_step most at (record_bytes r ++ others) ∙ rw (there, back.same, size, back.behind) refl

read_none : (r : Record) (others : Result (List Record) SlotFault) (stop : Option SlotFault) → read_on r others (stopped stop)
    ≡ outcome [] stop
read_none r others None = refl
read_none r others (Some fault) = refl

-- and are read as such
read_over : (rs : List Record) (rest : List ℕ) (stop : Option SlotFault) (most at : ℕ) → All IsRecord rs
    → size_at (at + length (flat_map record_bytes rs)) rest ≡ stopped stop → length rs < most
    → records_from most at (flat_map record_bytes rs ++ rest) ≡ outcome rs stop
read_over rs rest stop zero at are stops lt = absurd (omega (arith, lt))
read_over [] rest stop (suc most) at are stops lt =
    read_step most at rest ∙ ap (read_on (record_at rest) _) (rw add-zero at stops) ∙ read_none (record_at rest) _ stop
read_over (r ∷ rs) rest stop (suc most) at are stops lt =
    let is = All-head IsRecord r rs are in
    let own = (reads_back r [] is).own in
    let far : at + length (record_bytes r ++ flat_map record_bytes rs) ≡ at + record_size r + length (flat_map record_bytes rs) =
    omega (arith, own, length-append (record_bytes r) (flat_map record_bytes rs)) in
    ap (records_from (suc most) at) (append_assoc (record_bytes r) (flat_map record_bytes rs) rest)
    ∙ read_one most at r (flat_map record_bytes rs ++ rest) is
    ∙ ap (followed_by r) (read_over rs rest stop most (at + record_size r) (All-tail IsRecord r rs are) (rw far at stops) (omega arith))
    ∙ by stop
  where
    by : (stop : Option SlotFault) → followed_by r (outcome rs stop) ≡ outcome (r ∷ rs) stop
    by None = refl
    by (Some fault) = refl

pub long_enough : (rs : List Record) → All IsRecord rs → 8 * length rs ≤ length (flat_map record_bytes rs)
long_enough [] are = omega arith
long_enough (r ∷ rs) are =
    let own = (reads_back r [] (All-head IsRecord r rs are)).own in
    let more = long_enough rs (All-tail IsRecord r rs are) in
    omega (arith, own, more, length-append (record_bytes r) (flat_map record_bytes rs))

slot_read : (slot : List ℕ) → 5 ≤ length slot → (p : Parsed 5 (drop 5 slot)) → track_of slot ≡ behind_home_address (take 5 slot)
    (outcome p.records p.stop)
unfolding track_of
slot_read slot long p =
    let few : length p.records < length slot - 0 = omega (
      arith,
      long_enough p.records p.are_records,
      ap length p.bytes_are,
      length-drop 5 slot,
      length-append (flat_map record_bytes p.records) p.rest,
    ) in
    ap (behind_home_address (take 5 slot)) (whole_slot slot long ∙ ap (records_from (length slot - 0) 5) p.bytes_are
    ∙ read_over p.records p.rest p.stop (length slot - 0) 5 p.are_records p.stops few)

slot_parsed : (slot : List ℕ) → AreBytes slot → Parsed 5 (drop 5 slot)
slot_parsed slot small = parsed (length slot) 5 (drop 5 slot) (All-drop (λ b. b < 256) 5 slot small) (omega (arith, length-drop 5 slot))

-- The relation and the function are the same.

-- a home address, records and what stops behind them are read as such
read_parts : (slot ha : List ℕ) (rs : List Record) (rest : List ℕ) (stop : Option SlotFault) → length ha ≡ 5
    → slot ≡ ha ++ (flat_map record_bytes rs ++ rest) → All IsRecord rs
    → size_at (5 + length (flat_map record_bytes rs)) rest ≡ stopped stop → track_of slot ≡ behind_home_address ha (outcome rs stop)
read_parts slot ha rs rest stop five whole are stops =
    let F = flat_map record_bytes rs ++ rest in
    let long : 5 ≤ length slot = omega (arith, ap length whole, five, length-append ha F) in
    let p : Parsed 5 (drop 5 slot) = record {
      records = rs;
      rest = rest;
      stop = stop;
      are_records = are;
      bytes_are = ap (drop 5) whole
          ∙ drop_at ha F 5 five;
      stops = stops;
    } in
    slot_read slot long p ∙ ap (λ (xs : List ℕ). behind_home_address xs (outcome rs stop)) (ap (take 5) whole ∙ take_at ha F 5 five)

pub spelled_is_read : (slot : List ℕ) (t : Track) → Spells slot t → track_of slot ≡ Ok t
spelled_is_read slot t is =
    let tail = end_mark ++ is.rest in
    read_parts slot t.home_address t.records tail None is.home_address (is.bytes ∙ simp append_assoc) is.records
    (told_size (5 + length (flat_map record_bytes t.records)) tail (Ok None) (omega (arith, length-append end_mark is.rest), refl))

spelled_by : (slot : List ℕ) (t : Track) (p : Parsed 5 (drop 5 slot)) (stop : Option SlotFault) → 5 ≤ length slot → p.stop ≡ stop
    → behind_home_address (take 5 slot) (outcome p.records stop) ≡ Ok t → Spells slot t
spelled_by slot t p (Some fault) long is e = absurd cc
spelled_by slot t p None long is e =
    let F = flat_map record_bytes p.records in
    let same : t ≡ record { home_address = take 5 slot; records = p.records } = cc in
    let mark = (size_tells _ p.rest (Ok None) (p.stops ∙ ap stopped is)).1 in
    let tail : p.rest ≡ end_mark ++ drop 8 p.rest = sym (take-append-drop 8 p.rest)
    ∙ ap (λ (xs : List ℕ). xs ++ drop 8 p.rest) ((bytes_eq-Decides (take 8 p.rest) end_mark).0 mark) in
    rw same (record {
      home_address = omega (arith, length-take 5 slot);
      records = p.are_records;
      rest = drop 8 p.rest;
      bytes = sym (take-append-drop 5 slot) ∙ ap (λ (xs : List ℕ). take 5 slot ++ xs) (p.bytes_are ∙ ap (λ (xs : List ℕ). F ++ xs) tail)
          ∙ simp append_assoc;
    })

pub read_is_spelled : (slot : List ℕ) (t : Track) → AreBytes slot → track_of slot ≡ Ok t → Spells slot t
read_is_spelled slot t small e = by (cases_lt (length slot) 5)
  where
    by : (length slot < 5) ⊎ (5 ≤ length slot) → Spells slot t
    by (inl short) = absurd (let f = short_slot slot short in cc)
    by (inr long) = let p = slot_parsed slot small in spelled_by slot t p p.stop long refl (sym (slot_read slot long p) ∙ e)

-- The relation of a fault and the function's fault are the same.

-- the records up to the place where a walk stopped
record StopsAt (slot : List ℕ) (p : Parsed 5 (drop 5 slot)) (offset : ℕ) : Type 0 where
  up_to : RecordsUpTo slot offset
  rest : drop offset slot ≡ p.rest
  size : length slot ≡ offset + length p.rest

stops_at : (slot : List ℕ) (p : Parsed 5 (drop 5 slot)) (offset : ℕ) → 5 ≤ length slot
    → offset ≡ 5 + length (flat_map record_bytes p.records) → StopsAt slot p offset
stops_at slot p offset long is =
    let F = flat_map record_bytes p.records in
    let n : offset - 5 ≡ length F = omega arith in
    let size : length slot ≡ offset + length p.rest = omega (arith, ap length p.bytes_are, length-drop 5 slot, length-append F p.rest) in
    record {
      up_to = record {
        behind_home_address = omega arith;
        within = omega arith;
        records = p.records;
        are_records = p.are_records;
        bytes = rw (n, p.bytes_are) (take_at F p.rest (length F) refl);
      };
      rest = rw is (sym (drop-drop (length F) 5 slot) ∙ ap (drop (length F)) p.bytes_are ∙ drop_at F p.rest (length F) refl);
      size = size;
    }

fault_by : (slot : List ℕ) (p : Parsed 5 (drop 5 slot)) (fault : SlotFault) → 5 ≤ length slot → p.stop ≡ Some fault → HasFault slot fault
fault_by slot p (NoEnd offset) long is =
    let told = size_tells _ p.rest (Err (NoEnd offset)) (p.stops ∙ ap stopped is) in
    let s = stops_at slot p offset long told.0 in
    inr (s.up_to, omega (arith, s.size, told.1))
fault_by slot p (RecordPastEnd offset) long is =
    let told = size_tells _ p.rest (Err (RecordPastEnd offset)) (p.stops ∙ ap stopped is) in
    let s = stops_at slot p offset long told.0 in
    (s.up_to, omega (arith, s.size, told.1), rw s.rest told.2, rw s.rest (omega (arith, s.size, told.3)))

fault_read : (ha : List ℕ) (rs : List Record) (stop : Option SlotFault) (fault : SlotFault) → behind_home_address ha (outcome rs stop)
    ≡ Err fault → stop ≡ Some fault
fault_read ha rs None fault e = absurd cc
fault_read ha rs (Some other) fault e = cc

pub read_has_fault : (slot : List ℕ) (fault : SlotFault) → AreBytes slot → track_of slot ≡ Err fault → HasFault slot fault
read_has_fault slot fault small e = by fault (cases_lt (length slot) 5) e
  where
    by : (fault : SlotFault) → (length slot < 5) ⊎ (5 ≤ length slot) → track_of slot ≡ Err fault → HasFault slot fault
    by (NoEnd offset) (inl short) e = inl (short, (let f = short_slot slot short in cc))
    by (RecordPastEnd offset) (inl short) e = absurd (let f = short_slot slot short in cc)
    by fault (inr long) e = let p = slot_parsed slot small in
        fault_by slot p fault long (fault_read (take 5 slot) p.records p.stop fault (sym (slot_read slot long p) ∙ e))

-- a fault behind records that stand one after another is the fault of the whole
read_up_to : (slot : List ℕ) (offset : ℕ) (fault : SlotFault) → RecordsUpTo slot offset → size_at offset (drop offset slot) ≡ Err fault
    → track_of slot ≡ Err fault
read_up_to slot offset fault up there =
    let F = flat_map record_bytes up.records in
    let further : drop (offset - 5) (drop 5 slot) ≡ drop offset slot = (let e : 5 + (offset - 5) ≡ offset =
    omega (arith, up.behind_home_address) in rw e at (drop-drop (offset - 5) 5 slot)) in
    let here : 5 + length F ≡ offset = omega (
      arith,
      ap length up.bytes,
      length-take (offset - 5) (drop 5 slot),
      length-drop 5 slot,
      up.within,
      up.behind_home_address,
    ) in
    read_parts slot (take 5 slot) up.records (drop offset slot) (Some fault) (omega (
      arith,
      length-take 5 slot,
      up.within,
      up.behind_home_address,
    ))
    (sym (take-append-drop 5 slot) ∙ ap (λ (xs : List ℕ). take 5 slot ++ xs) (sym (take-append-drop (offset - 5) (drop 5 slot))
    ∙ rw (up.bytes, further) refl)) up.are_records (rw here there)

pub fault_is_read : (slot : List ℕ) (fault : SlotFault) → HasFault slot fault → track_of slot ≡ Err fault
fault_is_read slot (NoEnd offset) (inl short) = short_slot slot short.0 ∙ (let e : offset ≡ 0 = short.1 in rw e refl)
fault_is_read slot (NoEnd offset) (inr end) =
    read_up_to slot offset (NoEnd offset) end.0 (told_size offset (drop offset slot) (Err (NoEnd offset)) (
      refl,
      omega (arith, end.1, length-drop offset slot),
    ))
fault_is_read slot (RecordPastEnd offset) past =
    read_up_to slot offset (RecordPastEnd offset) past.0 (told_size offset (drop offset slot) (Err (RecordPastEnd offset)) (
      refl,
      omega (arith, past.1, length-drop offset slot),
      past.2,
      omega (arith, past.3, length-drop offset slot),
    ))

-- what a reader that gives the slot's one track answers
pub tells : (slot : List ℕ) → AreBytes slot → (r : Result Track SlotFault) → r ≡ track_of slot
    → record {
      track : r ≡ track_of slot;
      whole : (t : Track) → (r ≡ Ok t) ↔ Spells slot t;
      fault : (f : SlotFault)
          → (r ≡ Err f) ↔ HasFault slot f;
    }
tells slot small r is = record {
  track = is;
  whole = λ t. (λ e. read_is_spelled slot t small (sym is ∙ e), λ s. is ∙ spelled_is_read slot t s);
  fault = λ f. (λ e. read_has_fault slot f small (sym is ∙ e), λ h. is ∙ fault_is_read slot f h);
}
