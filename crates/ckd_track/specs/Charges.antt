-- What records take of a track's capacity, in bytes: this subsystem's own rule, with the overheads of the two drives
-- (component descriptions of the 2841 and the 2314, 'Track Capacity').
use Rattle.std.specs.Prelude.{◌≡◌, ◌≤◌, ℕ, ◌+◌, ◌-◌, ◌*◌, ◌/◌, Bool, false, nat_lt, nat_le, if◌then◌else◌, List, [], ◌∷◌, ◌++◌, length, take, slice_index_or}
use Rattle.std.specs.Prelude.{sum_by, bytes_eq, Option, Some, None, ◌==◌}
use Rattle.ckd_track.specs.declared.model.DriveModel.{DriveModel}
use Rattle.ckd_track.specs.declared.model.DriveModel.TheVariants.{D2311, D2314}
use Rattle.ckd_track.specs.Model.{capacity_of}
use Rattle.ckd_track.specs.Track.{Record, Track, no_record, spelling, end_mark, record_at, key_length, data_length}
use Rattle.ckd_track.specs.Changes.{with_record}

-- what a key area adds, where there is one
abbrev pub key_overhead_of : DriveModel → ℕ → ℕ
key_overhead_of D2311 kl = if nat_lt 0 kl then 20 else 0
key_overhead_of D2314 kl = if nat_lt 0 kl then 45 else 0

-- a record that others follow
abbrev pub charge_of : DriveModel → ℕ → ℕ → ℕ
charge_of D2311 kl dl = 61 + key_overhead_of D2311 kl + (kl + dl) * 537 / 512
charge_of D2314 kl dl = 101 + key_overhead_of D2314 kl + (kl + dl) * 2137 / 2048

-- the last record of its track
abbrev pub last_charge_of : DriveModel → ℕ → ℕ → ℕ
last_charge_of model kl dl = kl + dl + key_overhead_of model kl

-- record 0, also where it is the last: what it takes beyond its usual eight bytes of data
abbrev pub r0_charge_of : DriveModel → ℕ → ℕ → ℕ
r0_charge_of model kl dl = charge_of model kl dl - charge_of model 0 8

-- what a record takes by the lengths of its areas, where others follow it
abbrev pub record_charge : DriveModel → Record → ℕ
record_charge model r = charge_of model (length r.key_area) (length r.data_area)

-- records that others follow, record 0 by its own rule
abbrev pub kept_charges : DriveModel → List Record → ℕ
kept_charges model [] = 0
kept_charges model (r0 ∷ others) = r0_charge_of model (length r0.key_area) (length r0.data_area)
    + sum_by (record_charge model) others

-- a new last record behind these, or a new record 0 where none are kept
abbrev pub new_charge : DriveModel → List Record → ℕ → ℕ → ℕ
new_charge model [] kl dl = r0_charge_of model kl dl
new_charge model (r ∷ rs) kl dl = last_charge_of model kl dl

-- whether a track has room for a new record with these lengths behind the kept ones
abbrev pub has_room : DriveModel → List Record → ℕ → ℕ → Bool
has_room model kept kl dl = nat_le (kept_charges model kept + new_charge model kept kl dl) (capacity_of model)

-- record i of its track, where others follow it
abbrev pub charge_at : DriveModel → ℕ → Record → ℕ
charge_at model i r =
    if i == 0 then r0_charge_of model (length r.key_area) (length r.data_area)
    else charge_of model (length r.key_area) (length r.data_area)

-- what records that others follow leave of the capacity, unless they take more
abbrev pub capacity_left : DriveModel → List Record → Option ℕ
capacity_left model kept =
    if nat_le (kept_charges model kept) (capacity_of model) then Some (capacity_of model - kept_charges model kept)
    else None

-- the track with any new record of these lengths is spelled in so many bytes
abbrev pub LeavesRoom : ℕ → Option ℕ → ℕ → ℕ → Track → Type 0
LeavesRoom size after kl dl t =
    (count body : List ℕ) → length count ≡ 8 → key_length count ≡ kl → data_length count ≡ dl → length body ≡ kl + dl
    → length (spelling (with_record after (record_at (count ++ body)) t)) ≤ size

-- no count area with these lengths is the end mark
abbrev pub IsNoEndMark : ℕ → ℕ → Type 0
IsNoEndMark kl dl = (count : List ℕ) → key_length count ≡ kl → data_length count ≡ dl → bytes_eq count end_mark ≡ false

-- what the records of a track take, the last one as last
abbrev pub used_of : DriveModel → List Record → ℕ
used_of model [] = 0
used_of model (r ∷ rs) =
    let kept = take (length rs) (r ∷ rs) in
    let last = slice_index_or (r ∷ rs) (length rs) no_record in
    kept_charges model kept + new_charge model kept (length last.key_area) (length last.data_area)
