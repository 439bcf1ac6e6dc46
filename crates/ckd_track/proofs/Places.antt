-- What lies before and behind a record in a slot that spells its track.
use Rattle.std.proofs.Common.{◌≡◌, ◌∙◌, ap, sym, ℕ, zero, suc, ◌+◌, ◌≤◌, ◌<◌, List, [], ◌∷◌, ◌++◌, length, length-append, append_assoc}
use Rattle.std.proofs.Common.{take, drop, slice_index, flat_map, All, arith}
use Rattle.std.proofs.lemmas.Grind.{flat_map-append}
use Rattle.std.proofs.lemmas.List.{take_at, drop_at, take_all, take-append-drop, take_more, drop_more, flat_map_more}
use Rattle.std.proofs.lemmas.List.Elements.{All-get_or, All-head, All-tail}
use Rattle.ckd_track.specs.Track.{Record, Track, IsRecord, Spells, record_bytes, record_size, record_in, no_record, record_offsets}
use Rattle.ckd_track.specs.Track.{offsets_from, end_mark}
use Rattle.ckd_track.specs.Changes.{end_offset}
use Rattle.ckd_track.proofs.Spelled.{reads_back}

-- where record k stands, or behind the last record the end mark
abbrev pub place : Track → ℕ → ℕ
place t k = length t.home_address + length (flat_map record_bytes (take k t.records))

pub length-record_bytes : (r : Record) → IsRecord r → length (record_bytes r) ≡ record_size r
length-record_bytes r is = (reads_back r [] is).own

offsets_are : (at : ℕ) (rs : List Record) (k : ℕ) → All IsRecord rs → k < length rs → slice_index (offsets_from at rs) k ≡ at
    + length (flat_map record_bytes (take k rs))
offsets_are at [] k are lt = absurd (omega (arith, lt))
offsets_are at (r ∷ rs) zero are lt = omega arith
offsets_are at (r ∷ rs) (suc k) are lt =
    let more = offsets_are (at + record_size r) rs k (All-tail IsRecord r rs are) (omega (arith, lt)) in
    let own = length-record_bytes r (All-head IsRecord r rs are) in
    omega (arith, length-append (record_bytes r) (flat_map record_bytes (take k rs)))

pub end_is : (t : Track) → place t (length t.records) ≡ end_offset t
end_is t = ap (λ (rs : List Record). length t.home_address + length (flat_map record_bytes rs)) (take_all (length t.records) t.records
    (omega arith))

module _ (s : List ℕ) (t : Track) (spells : Spells s t) where
  pub offset_is : (k : ℕ) → k < length t.records → slice_index (record_offsets t) k ≡ place t k
  offset_is k lt = offsets_are 5 t.records k spells.records lt ∙ omega (arith, spells.home_address)

  -- the home address and the first k records
  abbrev pub front : ℕ → List ℕ
  front k = t.home_address ++ flat_map record_bytes (take k t.records)

  -- the other records, the end mark and the rest
  abbrev pub behind : ℕ → List ℕ
  behind k = flat_map record_bytes (drop k t.records) ++ (end_mark ++ spells.rest)

  parts : (k : ℕ) → flat_map record_bytes t.records ≡ flat_map record_bytes (take k t.records) ++ flat_map record_bytes (drop k t.records)
  parts k = ap (flat_map record_bytes) (sym (take-append-drop k t.records)) ∙ flat_map-append record_bytes (take k t.records)
      (drop k t.records)

  pub split_at : (k : ℕ) → s ≡ front k ++ behind k
  split_at k = spells.bytes ∙ rw (parts k) (simp append_assoc)

  pub length-front : (k : ℕ) → length (front k) ≡ place t k
  length-front k = length-append t.home_address (flat_map record_bytes (take k t.records))

  pub take-place : (k : ℕ) → take (place t k) s ≡ front k
  take-place k = ap (take (place t k)) (split_at k) ∙ take_at (front k) (behind k) (place t k) (length-front k)

  pub drop-place : (k : ℕ) → drop (place t k) s ≡ behind k
  drop-place k = ap (drop (place t k)) (split_at k) ∙ drop_at (front k) (behind k) (place t k) (length-front k)

  pub place-le : (k : ℕ) → place t k + 8 ≤ length s
  place-le k = omega (arith, ap length (split_at k), length-append {A = ℕ})

  pub place-before : (k : ℕ) → place t k ≤ end_offset t
  place-before k = omega (arith, ap length (parts k), length-append {A = ℕ})

  pub behind-one : (k : ℕ) → k < length t.records → behind k ≡ record_bytes (record_in t k) ++ behind (k + 1)
  behind-one k lt = rw (drop_more t.records k no_record lt) (simp append_assoc)

  pub front-one : (k : ℕ) → k < length t.records → front (k + 1) ≡ front k ++ record_bytes (record_in t k)
  front-one k lt =
      ap (λ rs. t.home_address ++ flat_map record_bytes rs) (take_more t.records k no_record lt)
      ∙ sym (flat_map_more record_bytes t.home_address (take k t.records) (record_in t k))

  pub record_is : (k : ℕ) → k < length t.records → IsRecord (record_in t k)
  record_is k lt = All-get_or IsRecord t.records k no_record lt spells.records

  pub place-one : (k : ℕ) → k < length t.records → place t (k + 1) ≡ place t k + record_size (record_in t k)
  place-one k lt = omega (arith, ap length (front-one k lt), length-append {A = ℕ}, length-record_bytes (record_in t k) (record_is k lt))
