-- The records of a data set, one behind another, whatever tracks they stand on.
use Rattle.std.specs.Prelude.{ℕ, ◌-◌, ◌≤◌, ◌<◌, Bool, ◌&&◌, nat_le, nat_lt, List, [], length, map, sum_by}
use Rattle.ckd_track.specs.declared.model.DriveModel.{DriveModel}
use Rattle.ckd_track.specs.Model.{capacity_of}
use Rattle.ckd_track.specs.Charges.{charge_of, last_charge_of}
use Rattle.record_tracks.specs.declared.records.NewRecord.{NewRecord}

-- the key area and the data area of a record
pub record Areas : Type 0 where
  pub key_area : List ℕ
  pub data_area : List ℕ

abbrev pub areas_of : NewRecord → Areas
areas_of b = record { key_area = b.key.now; data_area = b.bytes.now }

abbrev pub all_areas : List NewRecord → List Areas
all_areas blocks = map areas_of blocks

-- a record without data is an end of file
abbrev pub end_of_file : Areas
end_of_file = record { key_area = []; data_area = [] }

-- what it takes of a track's capacity, where others follow it and as the last one
abbrev pub charge_for : DriveModel → Areas → ℕ
charge_for model a = charge_of model (length a.key_area) (length a.data_area)

abbrev pub last_charge_for : DriveModel → Areas → ℕ
last_charge_for model a = last_charge_of model (length a.key_area) (length a.data_area)

-- it goes on a track of the drive, and no count area with its lengths is the end mark
pub record GoesOn (model : DriveModel) (a : Areas) : Type 0 where
  pub key : length a.key_area < 255
  pub most : last_charge_for model a ≤ capacity_of model

-- the same as a test
abbrev pub goes_on : DriveModel → Areas → Bool
goes_on model a = nat_lt (length a.key_area) 255 && nat_le (last_charge_for model a) (capacity_of model)

abbrev pub RecordGoesOn : DriveModel → NewRecord → Type 0
RecordGoesOn model b = GoesOn model (areas_of b)

-- what these records leave of a track's capacity, where others follow them
abbrev pub balance_behind : DriveModel → (areas : List Areas) → ℕ
balance_behind model areas = capacity_of model - sum_by (charge_for model) areas
