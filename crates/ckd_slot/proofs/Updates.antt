-- Slots whose area is written bit by bit.
use Rattle.std.proofs.Common.{◌≡◌, ◌∙◌, ap, sym, refl, ℕ, ◌+◌, ◌-◌, ◌≤◌, ◌<◌, max, false, Option, Some, None, List, ◌++◌, length, take}
use Rattle.std.proofs.Common.{Bool, true, drop, replicate, length-append, append_assoc, Ok, arith}
use Rattle.std.proofs.lemmas.List.{length-replicate, replicate-append-replicate, length-take-le, drop_at, take-append-drop}
use Rattle.ckd_track.specs.Track.{Track, Spells, track_of, track_in, track_or_none, record_in, slot_of, end_mark}
use Rattle.ckd_track.specs.Changes.{end_offset, overwritten, ended_at, IsZeroFrom}
use Rattle.ckd_track.proofs.Slots.{slot_of_spells, slot_of_reads, length-slot_of}
use Rattle.ckd_track.proofs.Places.{place-le, end_is}
use Rattle.ckd_track.proofs.Rewritten.{length-overwritten, overwritten-middle, ended}
use Rattle.ckd_position.specs.declared.areas.Area.{Area}
use Rattle.ckd_position.specs.declared.areas.Area.TheVariants.{Of}
use Rattle.ckd_position.specs.declared.areas.RecordPart.{RecordPart}
use Rattle.ckd_position.specs.declared.extents.AreaBytes.{AreaBytes}
use Rattle.ckd_position.specs.Contents.{is_readable, padded, replaced, with_record_changed}
use Rattle.ckd_slot.specs.Buffer.{FitsSlot, IsUpdate, IsUpdateAt, SameRecords, IsIndexed, IsBuffer, lengths_on}
use Rattle.ckd_slot.specs.declared.charges.Charged.{Charged}
use Rattle.ckd_slot.specs.declared.windows.Window.{Window}
use Rattle.ckd_slot.proofs.Lengths.{same_offsets, same_left, same_end}
use Rattle.ckd_track.proofs.Zeros.{drop_over, zero_over, ended_zeros}
use Rattle.ckd_slot.proofs.AreaPlaces.{Reads}
use Rattle.ckd_slot.proofs.Writes.{IsUpdated, update_is, update_offset, update_length, padded_whole, replaces}

-- A write before the end mark leaves the end mark and the zeros behind it.
ended_same : (s : List ℕ) (t : Track) (off : ℕ) (b : List ℕ) → Spells s t → s ≡ slot_of (length s) t → off + length b ≤ end_offset t
    → ended_at (overwritten s off b) (end_offset t) ≡ overwritten s off b
ended_same s t off b spells is within =
    let e = end_offset t in
    let x = overwritten s off b in
    let last : e + 8 ≤ length s = omega (arith, place-le s t spells (length t.records), end_is t) in
    let same : length x ≡ length s = length-overwritten s off b (omega (arith, within, last)) in
    let tail : drop e x ≡ end_mark ++ replicate (length x - (e + 8)) 0 =
    drop_over s off e b within (omega (arith, last)) ∙ ap (drop e) (is ∙ sym (ended s t (length s) refl spells))
    ∙ drop_at (take e s) (end_mark ++ replicate (length s - (e + 8)) 0) e (length-take-le e s (omega (arith, last)))
    ∙ ap (λ (n : ℕ). end_mark ++ replicate (n - (e + 8)) 0) (sym same) in
    rw (← tail) (take-append-drop e x)

-- All slots that a record's area makes with other bytes: the same before it and behind it.
pub record HasForm (size : ℕ) (t0 : Track) (e : AreaBytes) (i : ℕ) (body : List ℕ) (t' : Track) : Type 0 where
  pub fits : FitsSlot size t'
  pub lengths : lengths_on t' ≡ lengths_on t0
  pub within : update_offset e t0 i + length body ≤ size
  pub slot : slot_of size t' ≡ take (update_offset e t0 i) (slot_of size t0) ++ (body ++ drop (update_offset e t0 i + length body)
      (slot_of size t0))

-- An update makes such a slot. Its premises are many, since three updates come here, each with bytes of its own.
pub form_of : (size : ℕ) (t0 : Track) (e : AreaBytes) (part : RecordPart) (i : ℕ) (body : List ℕ) → IsUpdate e → FitsSlot size t0
    → i < length t0.records → length body ≡ update_length e (record_in t0 i)
    → HasForm size t0 e i body (with_record_changed (replaced e body) (Of part i) t0)
form_of size t0 e part i body u f lt same =
    let s0 = slot_of size t0 in
    let long = length-slot_of size t0 f.room in
    let spells = slot_of_spells size t0 f.home_address f.records in
    let k = update_is e s0 t0 part i body u spells lt same in
    let t' = with_record_changed (replaced e body) (Of part i) t0 in
    record {
      fits = rw long at k.fits;
      lengths = k.lengths;
      within = omega (arith, k.within, long, place-le s0 t0 spells (length t0.records), end_is t0);
      slot = ap (λ (m : ℕ). slot_of m t') (sym long) ∙ sym k.law ∙ ended_same s0 t0 (update_offset e t0 i) body spells
          (ap (λ (m : ℕ). slot_of m t0) (sym long)) k.within;
    }

-- more bytes in their place
pub padded_on : (head tail passed more : List ℕ) (room : ℕ) → length passed + length more ≤ room
    → overwritten (head ++ (padded passed room ++ tail)) (length head + length passed) more ≡ head ++ (padded (passed ++ more) room ++ tail)
padded_on head tail passed more room le =
    let k = length more in
    let rest = room - length passed - k in
    let all : room - length passed ≡ k + rest = omega (arith, le) in
    let split : replicate {A = ℕ} (room - length passed) 0 ≡ replicate k 0 ++ replicate rest 0 = ap (λ (n : ℕ). replicate n 0) all
    ∙ sym (replicate-append-replicate {A = ℕ} k rest 0) in
    let left : room - length (passed ++ more) ≡ rest = omega (arith, length-append passed more) in
    rw (split, left) (in_middle head passed (replicate k 0) (replicate rest 0) tail more (sym (length-replicate {A = ℕ} k 0)))
  where
    in_middle : (h p z y t m : List ℕ) → length m ≡ length z → overwritten (h ++ ((p ++ (z ++ y)) ++ t)) (length h + length p) m ≡ h
        ++ (((p ++ m) ++ y) ++ t)
    in_middle h p z y t m same =
        let old : h ++ ((p ++ (z ++ y)) ++ t) ≡ (h ++ p) ++ (z ++ (y ++ t)) = simp append_assoc in
        let new : (h ++ p) ++ (m ++ (y ++ t)) ≡ h ++ (((p ++ m) ++ y) ++ t) = simp append_assoc in
        rw old (overwritten-middle (h ++ p) z (y ++ t) m (length h + length p) (length-append h p) same ∙ new)

-- A slot of this size that was made of a track whose records are as long as those of another.
pub same_records : (size : ℕ) (old new : List ℕ) (t : Track) → track_of old ≡ Ok (track_in old) → FitsSlot size t → new ≡ slot_of size t
    → lengths_on t ≡ lengths_on (track_in old) → SameRecords old new
same_records size old new t reads f is long =
    let read = slot_of_reads size t f.home_address f.records in
    let same : track_in (slot_of size t) ≡ t = ap track_or_none read in
    rw is (record {
      old_read = reads;
      spells = rw same (slot_of_spells size t f.home_address f.records);
      read = rw same read;
      lengths =
          rw same long;
    })

-- A slot and its table where other bytes were put that leave the records in their places.
put_indexed : {old new offsets : List ℕ} {records : Option ℕ} → IsIndexed old offsets records → SameRecords old new
    → length new ≡ length old → IsIndexed new offsets records
put_indexed {old} {new} {offsets} {records = Some n} x s long = record {
  room = rw long x.room;
  size = rw long x.size;
  read = record {
    read = s.read;
    spells = s.spells;
    within = x.read.within;
    table = x.read.table
        ∙ sym (same_offsets (track_in new) (track_in old) s.lengths);
  };
}
put_indexed {old} {new} {offsets} {records = None} x s long = absurd (let no : is_readable (track_of old) ≡ false = x.read in let yes =
    ap is_readable s.old_read in cc)

-- a buffer whose slot got other bytes; it names each field that the buffer keeps beside its slot
pub kept_buffer : {old new offsets : List ℕ} {records : Option ℕ} {zeros_from z : ℕ} {charged : Charged} {exact : Bool}
    → IsBuffer old offsets records zeros_from charged exact → SameRecords old new → length new ≡ length old → IsZeroFrom new z
    → IsBuffer new offsets records z charged false
kept_buffer {old} {new} {charged} x s long cleared = record {
  indexed = put_indexed x.indexed s long;
  cleared = cleared;
  charges = x.charges ∙ sym (same_left charged.model (track_in new) (track_in old) charged.records s.lengths);
  as_spelled = λ e. absurd (let no : false ≡ true = e in cc);
}

-- a buffer in whose slot bytes are put; it names each field that the buffer keeps beside its slot
pub put_buffer : {old offsets : List ℕ} {records : Option ℕ} {zeros_from : ℕ} {charged : Charged} {exact : Bool} (at : ℕ) (b : List ℕ)
    → IsBuffer old offsets records zeros_from charged exact → at + length b ≤ length old → SameRecords old (overwritten old at b)
    → IsBuffer (overwritten old at b) offsets records (max zeros_from (at + length b)) charged false
put_buffer {old} {zeros_from} at b x room s =
    kept_buffer x s (length-overwritten old at b room) (zero_over old at b zeros_from (max zeros_from (at + length b)) x.cleared
    (omega arith) (omega arith) (omega (arith, x.cleared.within, room)))

-- a buffer whose slot is updated; it names each field that the buffer keeps beside its slot
pub updated_buffer : {old offsets body : List ℕ} {records : Option ℕ} {zeros_from off : ℕ} {charged : Charged} {exact : Bool} {t : Track}
    → IsBuffer old offsets records zeros_from charged exact → Reads old → IsUpdated old (track_in old) off body t
    → IsBuffer (slot_of (length old) t) offsets records (end_offset (track_in old) + 8) charged true
updated_buffer {old} {body} {off} {t} x r k =
    let room : end_offset (track_in old) + 8 ≤ length old =
    omega (arith, place-le old (track_in old) r.spells (length (track_in old).records), end_is (track_in old)) in
    let new = slot_of (length old) t in
    let long : length new ≡ length old = length-slot_of (length old) t k.fits.room in
    let same : track_in new ≡ t = ap track_or_none (slot_of_reads (length old) t k.fits.home_address k.fits.records) in
    let y = kept_buffer x (same_records (length old) old new t r.read k.fits refl k.lengths) long
    (ended_zeros old off body (end_offset (track_in old)) new (omega (arith, k.within, room)) room (sym k.law)) in
    record {
      indexed = y.indexed;
      cleared = y.cleared;
      charges = y.charges;
      as_spelled = λ e. record {
        whole = rw (same, long) refl;
        zeros = rw same (ap (λ (n : ℕ). n + 8) (sym (same_end t (track_in old) k.fits.home_address r.spells.home_address k.fits.records
            r.spells.records k.lengths)));
      };
    }

-- An exact slot in which as many bytes of a record are replaced as an update changes is the slot that the update leaves.
pub exact_update : {old body : List ℕ} {off : ℕ} {t : Track} → old ≡ slot_of (length old) (track_in old) → Reads old
    → IsUpdated old (track_in old) off body t → overwritten old off body ≡ slot_of (length old) t
exact_update {old} {body} {off} exact r k = sym (ended_same old (track_in old) off body r.spells exact k.within) ∙ k.law

-- as many bytes as an update changes, in their place
pub whole_update : (slot : List ℕ) (t : Track) (e : AreaBytes) (a : Area) (w : Window) (bytes : List ℕ) → Spells slot t
    → IsUpdateAt t e a w → length bytes ≡ w.len → IsUpdated slot t w.start bytes (with_record_changed (replaced e bytes) a t)
whole_update slot t e a w bytes s at same =
    rw (padded_whole bytes w.len same) at (replaces slot t e a w bytes s at (omega (arith, same)))
