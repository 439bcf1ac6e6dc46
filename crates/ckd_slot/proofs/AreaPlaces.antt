-- The bytes of an area stand where its record stands.
use Rattle.std.proofs.Common.{Bool, ◌≡◌, ◌∙◌, ap, sym, refl, ℕ, ◌+◌, ◌-◌, ◌/◌, ◌%◌, ◌≤◌, ◌<◌, List, [], ◌∷◌, ◌++◌, true, false, ◌==◌}
use Rattle.std.proofs.Common.{length, take, drop, slice_index, length-drop, length-take, length-append, drop-drop, Option, Some}
use Rattle.std.proofs.Common.{None, Result, Ok, Err, Fits, w8, get_or, IfOk, arith}
use Rattle.std.specs.Result.{result_ok}
use Rattle.ckd_track.specs.declared.fault.SlotFault.{SlotFault}
use Rattle.ckd_track.specs.Track.{number_of_records, offsets_of}
use Rattle.ckd_track.proofs.Laws.{read_is_spelled}
use Rattle.ckd_track.proofs.Offsets.{has_offsets, are_bytes}
use Rattle.std.proofs.lemmas.List.{take_at, take-take, get_or_past, get_or-take}
use Rattle.std.proofs.Math.Seq.{take-add}
use Rattle.std.proofs.lemmas.Grind.{get_or_default_zero}
use Rattle.ckd_track.specs.Track.{Record, Track, Spells, track_of, track_in, record_in, no_record, record_bytes, count_area, key_length}
use Rattle.ckd_track.specs.Track.{data_length}
use Rattle.ckd_track.proofs.Spelled.{reads_back}
use Rattle.ckd_track.proofs.Offsets.{stands, parts_at, PartsAt, StandsAt, home_is, length-offsets_from}
use Rattle.ckd_slot.specs.declared.charges.Charged.{Charged}
use Rattle.ckd_position.specs.declared.areas.Area.TheVariants.{HomeAddress, Of}
use Rattle.ckd_position.specs.declared.areas.RecordPart.{RecordPart}
use Rattle.ckd_position.specs.declared.extents.AreaBytes.{AreaBytes}
use Rattle.ckd_position.specs.declared.extents.AreaBytes.TheVariants as extent
use Rattle.ckd_position.specs.Contents.{Sighted, bytes_of, record_on, records_on, is_readable}
use Rattle.ckd_slot.specs.Buffer.{Lies, Tabled, IsRead, IsIndexed, IsBuffer, HasBytes, StandsThere, home_address_place, record_place}

take_five : (slot ha : List ℕ) → take 5 slot ≡ ha → take 4 (drop 1 slot) ≡ drop 1 ha
take_five [] ha e = rw (← e) refl
take_five (x ∷ slot) ha e = rw (← e) refl

pub home_lies : (slot : List ℕ) (t : Track) (e : AreaBytes) → Spells slot t
    → Lies slot (home_address_place e) (bytes_of e (Ok t) HomeAddress)
home_lies slot t extent.HomeAddress s = let h = home_is slot t s in
    record { within = omega (arith, ap length h, length-take 5 slot, s.home_address); size = s.home_address; here = h }
home_lies slot t extent.CylinderAndHead s = let h = home_is slot t s in
    record {
      within = omega (arith, ap length h, length-take 5 slot, s.home_address);
      size =
          omega (arith, length-drop 1 t.home_address, s.home_address);
      here = take_five slot t.home_address h;
    }
home_lies slot t e s = record { within = omega arith; size = refl; here = refl }

-- bytes that are so many of those behind an offset
lies_by : (slot bytes : List ℕ) (at n : ℕ) → at + n ≤ length slot → length bytes ≡ n → take n (drop at slot) ≡ bytes
    → Lies slot (record { start = at; len = n }) bytes
lies_by slot bytes at n room size here = let e : at + n - at ≡ n = omega arith in record { within = room; size = size; here = rw e here }

-- each area of a record lies at its place; the record is named apart from the track that has it, since each case of the
-- extent goes by the record alone
pub record_lies : (slot : List ℕ) (r : Record) (at : ℕ) (e : AreaBytes) (part : RecordPart) (i : ℕ) (t : Sighted) → StandsAt slot at r
    → PartsAt slot at r → record_on t i ≡ r
    → Lies slot (record_place e at (key_length (drop at slot)) (data_length (drop at slot))) (bytes_of e t (Of part i))
record_lies slot r at extent.Identifier part i t s p is =
    let id : take 5 (drop at slot) ≡ r.id = sym (take-take 5 8 (drop at slot) (omega arith)) ∙ ap (take 5) p.count
    ∙ take_at r.id (length r.key_area ∷ length r.data_area / 256 ∷ length r.data_area % 256 ∷ []) 5 s.is_record.id in
    rw (is, bytes_of) (lies_by slot r.id at 5 (omega (arith, p.within)) s.is_record.id id)
record_lies slot r at extent.Count part i t s p is =
    rw (is, bytes_of) (lies_by slot (count_area r) at 8 (omega (arith, p.within)) (omega (
      arith,
      ap length p.count,
      length-take 8 (drop at slot),
      length-drop at slot,
      p.within,
    )) p.count)
record_lies slot r at extent.Key part i t s p is =
    rw (is, bytes_of, p.key_size) (lies_by slot r.key_area (at + 8) (length r.key_area) (omega (arith, p.within)) refl p.key_area)
record_lies slot r at extent.Data part i t s p is =
    rw (is, bytes_of, p.key_size, p.data_size) (lies_by slot r.data_area (at + 8 + length r.key_area) (length r.data_area)
    (omega (arith, p.within)) refl p.data_area)
record_lies slot r at extent.KeyAndData part i t s p is =
    let n = length r.key_area + length r.data_area in
    let both : take n (drop (at + 8) slot) ≡ r.key_area ++ r.data_area = take-add (length r.key_area) (length r.data_area)
    (drop (at + 8) slot) ∙ rw (p.key_area, drop-drop (length r.key_area) (at + 8) slot, p.data_area) refl in
    rw (is, bytes_of, p.key_size, p.data_size) (lies_by slot (r.key_area ++ r.data_area) (at + 8) n (omega (arith, p.within))
    (length-append r.key_area r.data_area) both)
record_lies slot r at extent.CountKeyAndData part i t s p is =
    let n = 8 + length r.key_area + length r.data_area in
    let own : length (record_bytes r) ≡ n = omega (arith, (reads_back r [] s.is_record).own) in
    rw (is, bytes_of, p.key_size, p.data_size) (lies_by slot (record_bytes r) at n (omega (arith, p.within)) own (ap (take n) s.bytes
    ∙ take_at (record_bytes r) s.rest n own))
record_lies slot r at e part i t s p is = record { within = omega arith; size = refl; here = refl }

-- a slot that reads whole spells the track that is read of it
pub record Reads (slot : List ℕ) : Type 0 where
  pub read : track_of slot ≡ Ok (track_in slot)
  pub spells : Spells slot (track_in slot)

pub reads_indexed : {slot offsets : List ℕ} {records : Option ℕ} → IsIndexed slot offsets records → is_readable (track_of slot) ≡ true
    → Reads slot
reads_indexed {slot} {offsets} {records = Some n} x e = record { read = x.read.read; spells = x.read.spells }
reads_indexed {slot} {offsets} {records = None} x e = absurd (let no : is_readable (track_of slot) ≡ false = x.read in cc)

pub reads : {slot offsets : List ℕ} {records : Option ℕ} {zeros_from : ℕ} {charged : Charged} {exact : Bool}
    → IsBuffer slot offsets records zeros_from charged exact → is_readable (track_of slot) ≡ true → Reads slot
reads x e = reads_indexed x.indexed e

pub home_window : {slot : List ℕ} (e : AreaBytes) → Reads slot → Lies slot (home_address_place e) (bytes_of e (track_of slot) HomeAddress)
home_window {slot} e r =
    rw r.read (home_lies slot (track_in slot) e r.spells)

pub standing : {slot : List ℕ} (i at : ℕ) → Reads slot → StandsThere slot i (Some at) → StandsAt slot at (record_in (track_in slot) i)
standing {slot} i at r there =
    rw there.1 (stands slot (track_in slot) i r.spells there.0)

-- what its count area says
pub parts_there : {slot : List ℕ} (i at : ℕ) → Reads slot → StandsThere slot i (Some at) → PartsAt slot at (record_in (track_in slot) i)
parts_there {slot} i at r there = parts_at slot at (record_in (track_in slot) i) (standing i at r there)

pub room_there : {slot : List ℕ} (i at : ℕ) → Reads slot → StandsThere slot i (Some at) → at + 8 ≤ length slot
room_there i at r there = omega (arith, (parts_there i at r there).within)

pub record_window : {slot : List ℕ} (e : AreaBytes) (part : RecordPart) (i at : ℕ) → Reads slot → StandsThere slot i (Some at)
    → Lies slot (record_place e at (key_length (drop at slot)) (data_length (drop at slot))) (bytes_of e (track_of slot) (Of part i))
record_window {slot} e part i at r there =
    rw r.read (record_lies slot (record_in (track_in slot) i) at e part i (Ok (track_in slot)) (standing i at r there)
    (parts_there i at r there) refl)

not_there : (t : Sighted) (i : ℕ) → length (records_on t) ≤ i → record_on t i ≡ no_record
not_there t i le = get_or_past (records_on t) i no_record le

lies_nowhere : (slot bytes : List ℕ) → bytes ≡ [] → Lies slot (record { start = 0; len = 0 }) bytes
lies_nowhere slot bytes e = rw e (record { within = omega arith; size = refl; here = refl })

pub no_window : (slot : List ℕ) (e : AreaBytes) (part : RecordPart) (i : ℕ) → StandsThere slot i None
    → HasBytes e (track_of slot) (Of part i)
    → Lies slot (record { start = 0; len = 0 }) (bytes_of e (track_of slot) (Of part i))
no_window slot extent.Count part i le on = absurd (omega (arith, le, on))
no_window slot extent.CountKeyAndData part i le on = absurd (omega (arith, le, on))
no_window slot _ part i le on = lies_nowhere slot _ (let none = not_there (track_of slot) i le in cc)

-- whether a record has data is read off its count area
pub no_data_there : {slot : List ℕ} (i at : ℕ) → Reads slot → StandsThere slot i (Some at)
    → data_length (drop at slot) ≡ length (record_on (track_of slot) i).data_area
no_data_there {slot} i at r there =
    rw r.read (parts_there i at r there).data_size

pub no_data_nowhere : (slot : List ℕ) (i : ℕ) → StandsThere slot i None → (length (record_on (track_of slot) i).data_area == 0) ≡ true
no_data_nowhere slot i le = rw (not_there (track_of slot) i le) refl

-- the table has where a record stands
pub how_many : {slot offsets : List ℕ} {n : ℕ} → Tabled slot offsets n → n ≡ length (track_in slot).records
how_many {slot} {offsets} {n} t = omega (
  arith,
  ap length t.table,
  length-offsets_from 5 (track_in slot).records,
  length-take n offsets,
  t.within,
)

pub table_there : {slot offsets : List ℕ} {n : ℕ} (i at : ℕ) → Tabled slot offsets n → i < n → at ≡ get_or offsets i at
    → StandsThere slot i (Some at)
table_there {slot} {offsets} {n} i at t lt e =
    let is : at ≡ get_or offsets i 0 = e ∙ get_or_default_zero offsets i at (omega (arith, t.within)) in
    (omega (arith, how_many t), is ∙ sym (get_or-take n offsets i 0 lt) ∙ ap (λ (xs : List ℕ). slice_index xs i) t.table)

pub table_past : {slot offsets : List ℕ} {n : ℕ} (i : ℕ) → Tabled slot offsets n → n ≤ i → StandsThere slot i None
table_past {slot} i t le =
    rw t.read (omega (arith, how_many t))

-- what the answer of an index says of the slot
pub read_by : (slot table : List ℕ) (answer : Result ℕ SlotFault) (t : Sighted) → ((i : ℕ) → Fits w8 (get_or slot i 0)) → track_of slot ≡ t
    → answer ≡ number_of_records t
    → IfOk answer (λ n. offsets_of slot ≡ Ok (take n table)) → IfOk answer (λ n. n ≤ length table) → IsRead slot table (result_ok answer)
read_by slot table (Ok n) (Ok t) fit is number offs within =
    let h = has_offsets slot (take n table) offs in
    record { read = h.0; spells = read_is_spelled slot (track_in slot) (are_bytes slot fit) h.0; within = within; table = h.1 }
read_by slot table (Err fault) (Err f) fit is number offs within = rw is refl
read_by slot table _ _ fit is number offs within = absurd cc
