-- Where records stand, one behind another, on tracks of which each has as many as it has room for (Data Management Services, 'Relative
-- Track Address').
use Rattle.std.specs.Prelude.{ℕ, zero, suc, ◌+◌, ◌-◌, nat_lt, if◌then◌else◌, List}
use Rattle.ckd_track.specs.declared.model.DriveModel.{DriveModel}
use Rattle.volume_labels.specs.declared.fields.RelativeAddress.{RelativeAddress}
use Rattle.record_tracks.specs.Records.{Areas}
use Rattle.record_tracks.specs.Tracks.{fitting_on, behind_track}

-- The address of record k of those that are left, from 0 on, the first of which begins this track. Each track has one at least, so that
-- `most` is as many tracks as may be passed.
unfoldable pub address_from : (most : ℕ) → DriveModel → (left : List Areas) → (track k : ℕ) → RelativeAddress
address_from zero model left track k = record { track = track; number = k + 1 }
address_from (suc most) model left track k =
    if nat_lt k (fitting_on model left) then record { track = track; number = k + 1 }
    else address_from most model (behind_track model left) (track + 1) (k - fitting_on model left)

-- the address of record k of these, from 0 on
abbrev pub address_of : DriveModel → (areas : List Areas) → (k : ℕ) → RelativeAddress
address_of model areas k = address_from (k + 1) model areas 0 k
