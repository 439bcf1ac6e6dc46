-- Slots that spell a track, and the offsets of a track that is changed.
use Rattle.std.proofs.Common.{◌≡◌, ap, refl, ℕ, zero, suc, ◌+◌, ◌-◌, ◌≤◌, List, [], ◌∷◌, ◌++◌, length, take, slice_index_or, slice_set}
use Rattle.std.proofs.Common.{flat_map, replicate, length-append, sum_by, Ok, Option, None, Some, All, arith}
use Rattle.std.proofs.lemmas.List.{length-replicate}
use Rattle.std.proofs.lemmas.List.Elements.{All-nil, All-take, All-head, All-tail}
use Rattle.std.proofs.lemmas.List.Sums.{sum_by-cons}
use Rattle.ckd_track.specs.Track.{Record, Track, IsRecord, Spells, spelling, slot_of, record_bytes, record_size, track_of, no_record}
use Rattle.ckd_track.specs.Track.{offsets_from}
use Rattle.ckd_track.specs.Changes.{kept_records}
use Rattle.ckd_track.proofs.Spelled.{reads_back}
use Rattle.ckd_track.proofs.Laws.{spelled_is_read}

-- the spelling of a track with zeros behind spells the track
pub slot_of_spells : (size : ℕ) (t : Track) → length t.home_address ≡ 5 → All IsRecord t.records → Spells (slot_of size t) t
unfolding slot_of
slot_of_spells size t ha are = record { home_address = ha; records = are; rest = replicate (size - length (spelling t)) 0; bytes = refl }

pub slot_of_reads : (size : ℕ) (t : Track) → length t.home_address ≡ 5 → All IsRecord t.records → track_of (slot_of size t) ≡ Ok t
slot_of_reads size t ha are = spelled_is_read (slot_of size t) t (slot_of_spells size t ha are)

pub length-slot_of : (size : ℕ) (t : Track) → length (spelling t) ≤ size → length (slot_of size t) ≡ size
unfolding slot_of
length-slot_of size t room = omega (
  arith,
  length-append (spelling t) (replicate (size - length (spelling t)) 0),
  length-replicate {A =
      ℕ} (size - length (spelling t)) 0,
)

pub length-records : (rs : List Record) → All IsRecord rs → length (flat_map record_bytes rs) ≡ sum_by record_size rs
length-records [] are = refl
length-records (r ∷ rs) are =
    let own = (reads_back r [] (All-head IsRecord r rs are)).own in
    let more = length-records rs (All-tail IsRecord r rs are) in
    omega (arith, own, more, sum_by-cons record_size r rs, length-append (record_bytes r) (flat_map record_bytes rs))

-- what a track takes in a slot: the home address, its records and the end mark
pub length-spelling : (t : Track) → length t.home_address ≡ 5 → All IsRecord t.records
    → length (spelling t) ≡ 5 + sum_by record_size t.records + 8
length-spelling t ha are = omega (arith, ha, length-append {A = ℕ}, length-records t.records are)

-- the records that a new one leaves before it are records
pub kept_are : (after : Option ℕ) (t : Track) → All IsRecord t.records → All IsRecord (kept_records after t)
kept_are None t are = All-nil IsRecord
kept_are (Some i) t are = All-take IsRecord (i + 1) t.records are

-- Offsets.

pub offsets-append : (at : ℕ) (xs ys : List Record) → offsets_from at (xs ++ ys) ≡ offsets_from at xs ++ offsets_from
    (at + sum_by record_size xs) ys
offsets-append at [] ys = (let none : at + 0 ≡ at = omega arith in rw none refl)
offsets-append at (x ∷ xs) ys =
    let far : at + record_size x + sum_by record_size xs ≡ at + sum_by record_size (x ∷ xs) = omega (arith, sum_by-cons record_size x xs) in
    ap (λ (os : List ℕ). at ∷ os) (rw far at (offsets-append (at + record_size x) xs ys))

pub offsets-take : (n at : ℕ) (rs : List Record) → take n (offsets_from at rs) ≡ offsets_from at (take n rs)
offsets-take zero at rs = refl
offsets-take (suc n) at [] = refl
offsets-take (suc n) at (r ∷ rs) = ap (λ (os : List ℕ). at ∷ os) (offsets-take n (at + record_size r) rs)

-- another record of the same size leaves the offsets
pub offsets-set : (at : ℕ) (rs : List Record) (i : ℕ) (new : Record) → record_size new ≡ record_size (slice_index_or rs i no_record)
    → offsets_from at (slice_set rs i new) ≡ offsets_from at rs
offsets-set at [] i new same = refl
offsets-set at (r ∷ rs) zero new same = rw same refl
offsets-set at (r ∷ rs) (suc i) new same = ap (λ (os : List ℕ). at ∷ os) (offsets-set (at + record_size r) rs i new same)
