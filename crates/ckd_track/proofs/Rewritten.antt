-- What a slot spells after other bytes were written into it.
use Rattle.std.proofs.Common.{◌≡◌, ◌∙◌, ap, refl, ℕ, suc, ◌+◌, ◌≤◌, ◌<◌, List, [], ◌∷◌, ◌++◌, length, length-append, append_assoc, take}
use Rattle.std.proofs.Common.{drop, drop-drop, flat_map, set, add-one, arith}
use Rattle.std.proofs.lemmas.Grind.{flat_map-append}
use Rattle.std.proofs.lemmas.List.{take_at, drop_at, take_all, set_split, length-take, length-drop, length-take-le, flat_map_more}
use Rattle.std.proofs.lemmas.List.Elements.{All-set}
use Rattle.std.proofs.lemmas.Slice.{take-put_mid, drop-put_mid}
use Rattle.ckd_track.specs.Track.{Record, Track, IsRecord, Spells, record_bytes, record_size, record_in, end_mark, slot_of}
use Rattle.ckd_track.specs.Changes.{end_offset, overwritten, ended_at, with_body}
use Rattle.ckd_track.proofs.Places.{place, length-record_bytes, front, behind, split_at, length-front, take-place, place-le, behind-one}
use Rattle.ckd_track.proofs.Places.{record_is, end_is}

-- Bytes in the place of others.

pub length-overwritten : (s : List ℕ) (at : ℕ) (b : List ℕ) → at + length b ≤ length s → length (overwritten s at b) ≡ length s
length-overwritten s at b le = grind (arith, length-append {A = ℕ}, length-take {A = ℕ}, length-drop {A = ℕ})

-- up to the end of what was written, and from there on
pub take-overwritten : (s : List ℕ) (at : ℕ) (b : List ℕ) → at ≤ length s → take (at + length b) (overwritten s at b) ≡ take at s ++ b
take-overwritten s at b le = rw (← (drop-drop (length b) at s)) (take-put_mid at (length b) s b (at + length b) refl le)

pub drop_over : (s : List ℕ) (off e : ℕ) (b : List ℕ) → off + length b ≤ e → e ≤ length s → drop e (overwritten s off b) ≡ drop e s
drop_over s off e b le room = rw (← (drop-drop (length b) off s)) (drop-put_mid off (length b) s b e le (omega arith) refl)

-- as many bytes in the place of some in the middle
pub overwritten-middle : (x d y b : List ℕ) (at : ℕ) → length x ≡ at → length b ≡ length d → overwritten (x ++ (d ++ y)) at b ≡ x
    ++ (b ++ y)
overwritten-middle x d y b at is same =
    let rest : drop (at + length b) (x ++ (d ++ y)) ≡ y =
    rw (← append_assoc) (drop_at (x ++ d) y (at + length b) (omega (arith, length-append x d))) in
    rw (take_at x (d ++ y) at is, rest) refl

-- bytes behind others that were written
pub overwritten-append : (s : List ℕ) (at : ℕ) (a b : List ℕ) → at + length a + length b ≤ length s
    → overwritten (overwritten s at a) (at + length a) b ≡ overwritten s at (a ++ b)
overwritten-append s at a b le =
    let n : at + length (a ++ b) ≡ at + length a + length b = omega (arith, length-append a b) in
    rw (take-overwritten s at a (omega arith), drop_over s at (at + length a + length b) a (omega arith) le, n) (simp append_assoc)

-- A slot made of a track.

-- where a track's records end, the end mark and zeros make its slot
pub ended_at-slot : (s : List ℕ) (t : Track) (at n : ℕ) → length s ≡ n → take at s ≡ t.home_address ++ flat_map record_bytes t.records
    → at + 8 ≤ n → ended_at s at ≡ slot_of n t
unfolding slot_of
ended_at-slot s t at n long front room =
    let same : length (t.home_address ++ (flat_map record_bytes t.records ++ end_mark)) ≡ at + 8 =
    omega (arith, length-take-le at s (omega arith), ap length front, length-append {A = ℕ}) in
    rw (front, same, long) (simp append_assoc)

-- a slot that spells a track, with zeros behind its end mark
pub ended : (s : List ℕ) (t : Track) (n : ℕ) → length s ≡ n → Spells s t → ended_at s (end_offset t) ≡ slot_of n t
ended s t n long spells =
    let all : take (length t.records) t.records ≡ t.records = take_all (length t.records) t.records (omega arith) in
    ended_at-slot s t (end_offset t) n long (rw all at (take-place s t spells (length t.records)))
    (omega (arith, long, place-le s t spells (length t.records), end_is t))

-- Another record of the same length in a record's place.

pub record SameLengths (old new : Record) : Type 0 where
  pub key_area : length new.key_area ≡ length old.key_area
  pub data_area : length new.data_area ≡ length old.data_area

-- with the same id and areas as long as before it is a record too
same_is_record : (r : Record) (key_area data_area : List ℕ) → IsRecord r
    → SameLengths r (record r { key_area = key_area; data_area = data_area })
    → IsRecord (record r { key_area = key_area; data_area = data_area })
same_is_record r key_area data_area is l = record {
  id = is.id;
  key_area = rw l.key_area is.key_area;
  data_area = rw l.data_area is.data_area;
  no_end_mark = rw (l.key_area, l.data_area) is.no_end_mark;
}

-- the bytes of the one record are those of the other, but for these from an offset on
pub record Rewrites (old new : Record) (off : ℕ) (body : List ℕ) : Type 0 where
  pub first : List ℕ
  pub others : List ℕ
  pub was : record_bytes old ≡ first ++ others
  pub is : record_bytes new ≡ first ++ body
  pub same : length body ≡ length others
  pub place : length first ≡ off

module _ (s : List ℕ) (t : Track) (spells : Spells s t) (i : ℕ) (lt : i < length t.records) where
  split_record : s ≡ front s t spells i ++ (record_bytes (record_in t i) ++ behind s t spells (i + 1))
  split_record = split_at s t spells i ∙ ap (λ (l : List ℕ). front s t spells i ++ l) (behind-one s t spells i lt)

  pub written : (r : Record) (off : ℕ) (body : List ℕ) → Rewrites (record_in t i) r off body → overwritten s (place t i + off) body
      ≡ front s t spells i ++ (record_bytes r ++ behind s t spells (i + 1))
  written r off body w =
      let f = front s t spells i in
      let y = behind s t spells (i + 1) in
      let whole : s ≡ (f ++ w.first) ++ (w.others ++ y) = split_record ∙ rw w.was (simp append_assoc) in
      ap (λ (l : List ℕ). overwritten l (place t i + off) body) whole
      ∙ overwritten-middle (f ++ w.first) w.others y body (place t i + off) (omega (
        arith,
        w.place,
        length-front s t spells i,
        length-append f w.first,
      )) w.same ∙ rw w.is (simp append_assoc)

  module _ (r : Record) (is : IsRecord r) (same : record_size r ≡ record_size (record_in t i)) where
    abbrev changed : Track
    changed = record t { records = set t.records i r }

    all_bytes : flat_map record_bytes (set t.records i r) ≡ flat_map record_bytes (take i t.records)
        ++ (record_bytes r ++ flat_map record_bytes (drop (i + 1) t.records))
    all_bytes = rw (set_split t.records i r lt, add-one) (flat_map-append record_bytes (take i t.records) (r ∷ drop (suc i) t.records))

    pub changed_spells : (x : List ℕ) → x ≡ front s t spells i ++ (record_bytes r ++ behind s t spells (i + 1)) → Spells x changed
    changed_spells x is_x = record {
      home_address = spells.home_address;
      records = All-set IsRecord t.records i r is spells.records;
      rest = spells.rest;
      bytes = is_x ∙ rw all_bytes (simp append_assoc);
    }

    pub changed_end : end_offset changed ≡ end_offset t
    changed_end = omega (
      arith,
      same,
      ap length all_bytes,
      ap length split_record,
      ap length spells.bytes,
      length-record_bytes r is,
      length-record_bytes (record_in t i) (record_is s t spells i lt),
      length-append {A = ℕ},
    )

  pub data_is_record : (body : List ℕ) → length body ≡ length (record_in t i).data_area
      → IsRecord (record (record_in t i) { data_area = body })
  data_is_record body same = same_is_record (record_in t i) (record_in t i).key_area body (record_is s t spells i lt) (record {
    key_area =
        refl;
    data_area = same;
  })

  pub body_lengths : (body : List ℕ) → length body ≡ length (record_in t i).key_area + length (record_in t i).data_area
      → SameLengths (record_in t i) (with_body body (record_in t i))
  body_lengths body same = record {
    key_area = length-take-le (length (record_in t i).key_area) body (omega arith);
    data_area = length-drop (length (record_in t i).key_area) body ∙ omega arith;
  }

  pub body_is_record : (body : List ℕ) → length body ≡ length (record_in t i).key_area + length (record_in t i).data_area
      → IsRecord (with_body body (record_in t i))
  body_is_record body same = same_is_record (record_in t i) _ _ (record_is s t spells i lt) (body_lengths body same)

-- A new record behind the first k.

-- of two writes it names the slot, the place, both texts and their lengths, and the record that they make
pub record_written : (s : List ℕ) (t : Track) → Spells s t → (k : ℕ) (count body : List ℕ) (new : Record) → length count ≡ 8
    → record_bytes new ≡ count ++ body → place t k + 8 + length body ≤ length s
    → take (place t k + 8 + length body) (overwritten (overwritten s (place t k) count) (place t k + 8) body) ≡ t.home_address
    ++ flat_map record_bytes (take k t.records ++ new ∷ [])
record_written s t spells k count body new eight is room =
    let at = place t k in
    let l = length-overwritten s at count (omega arith) in
    let first : take (at + 8) (overwritten s at count) ≡ front s t spells k ++ count =
    rw (← eight, ← (take-place s t spells k)) (take-overwritten s at count (omega arith)) in
    take-overwritten (overwritten s at count) (at + 8) body (omega arith)
    ∙ rw first (append_assoc (front s t spells k) count body ∙ rw (← is) (flat_map_more record_bytes t.home_address (take k t.records) new))
