-- What follows from the lengths of keys and data: where records stand, and what they take.
use Rattle.std.proofs.Common.{◌≡◌, ◌∙◌, ap, sym, refl, ℕ, ◌+◌, ◌-◌, List, All, [], ◌∷◌, length, take, map, flat_map, sum_by, nat_le}
use Rattle.std.proofs.Common.{if◌then◌else◌, Some, length-append, None, arith}
use Rattle.std.proofs.lemmas.List.{take-map}
use Rattle.std.proofs.lemmas.List.Elements.{All-head, All-tail}
use Rattle.std.proofs.lemmas.List.Sums.{sum_by-cons}
use Rattle.ckd_track.specs.declared.model.DriveModel.{DriveModel}
use Rattle.ckd_track.specs.Model.{capacity_of}
use Rattle.ckd_track.specs.Track.{Record, Track, IsRecord, record_bytes, record_offsets, offsets_from, record_size}
use Rattle.ckd_track.specs.Changes.{end_offset}
use Rattle.ckd_track.proofs.Places.{length-record_bytes}
use Rattle.ckd_track.specs.Charges.{charge_of, r0_charge_of, record_charge, kept_charges, capacity_left}
use Rattle.ckd_slot.specs.Buffer.{lengths_on}

abbrev pub lengths_of : Record → ℕ × ℕ
lengths_of r = (length r.key_area, length r.data_area)

abbrev offsets_by : ℕ → List (ℕ × ℕ) → List ℕ
offsets_by at [] = []
offsets_by at (l ∷ ls) = at ∷ offsets_by (at + (8 + (l.0 + l.1))) ls

offsets_are : (at : ℕ) (rs : List Record) → offsets_from at rs ≡ offsets_by at (map lengths_of rs)
offsets_are at [] = refl
offsets_are at (r ∷ rs) = ap (λ (os : List ℕ). at ∷ os) (offsets_are (at + record_size r) rs)

-- records as long as others stand where those do
pub same_offsets : (t' t : Track) → lengths_on t' ≡ lengths_on t → record_offsets t' ≡ record_offsets t
same_offsets t' t same = offsets_are 5 t'.records ∙ ap (λ (ls : List (ℕ × ℕ)). offsets_by 5 ls) same ∙ sym (offsets_are 5 t.records)

abbrev charge_by : DriveModel → ℕ × ℕ → ℕ
charge_by model l = charge_of model l.0 l.1

abbrev charges_by : DriveModel → List (ℕ × ℕ) → ℕ
charges_by model [] = 0
charges_by model (l ∷ ls) = r0_charge_of model l.0 l.1 + sum_by (charge_by model) ls

charges_are : (model : DriveModel) (rs : List Record) (n : ℕ) → kept_charges model (take n rs) ≡ charges_by model
    (take n (map lengths_of rs))
charges_are model rs n = by (take n rs) ∙ ap (charges_by model) (sym (take-map lengths_of n rs))
  where
    others : (rs : List Record) → sum_by (record_charge model) rs ≡ sum_by (charge_by model) (map lengths_of rs)
    others [] = refl
    others (r ∷ rs) = omega (
      arith,
      sum_by-cons (record_charge model) r rs,
      sum_by-cons (charge_by model) (lengths_of r)
          (map lengths_of rs),
      others rs,
    )

    by : (rs : List Record) → kept_charges model rs ≡ charges_by model (map lengths_of rs)
    by [] = refl
    by (r ∷ rs) = ap (λ (k : ℕ). r0_charge_of model (length r.key_area) (length r.data_area) + k) (others rs)

-- and leave as much of the capacity
pub same_left : (model : DriveModel) (t' t : Track) (n : ℕ) → lengths_on t' ≡ lengths_on t → capacity_left model (take n t'.records)
    ≡ capacity_left model (take n t.records)
same_left model t' t n same =
    let k = charges_are model t'.records n ∙ ap (λ (ls : List (ℕ × ℕ)). charges_by model (take n ls)) same
    ∙ sym (charges_are model t.records n) in
    ap (λ (k : ℕ). if nat_le k (capacity_of model) then Some (capacity_of model - k) else None) k

-- the bytes of records by the lengths of their keys and data
abbrev sizes_by : List (ℕ × ℕ) → ℕ
sizes_by [] = 0
sizes_by (l ∷ ls) = 8 + (l.0 + l.1) + sizes_by ls

sizes_are : (rs : List Record) → All IsRecord rs → length (flat_map record_bytes rs) ≡ sizes_by (map lengths_of rs)
sizes_are [] are = refl
sizes_are (r ∷ rs) are = omega (
  arith,
  length-append (record_bytes r) (flat_map record_bytes rs),
  length-record_bytes r (All-head IsRecord r rs are),
  sizes_are rs (All-tail IsRecord r rs are),
)

-- and end where those do
pub same_end : (t' t : Track) → length t'.home_address ≡ 5 → length t.home_address ≡ 5 → All IsRecord t'.records → All IsRecord t.records
    → lengths_on t' ≡ lengths_on t → end_offset t' ≡ end_offset t
same_end t' t five' five are' are same = omega (arith, five', five, sizes_are t'.records are', sizes_are t.records are, ap sizes_by same)
