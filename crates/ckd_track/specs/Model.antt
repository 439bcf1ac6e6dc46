-- The two drives: their tracks in a cylinder, a track's capacity, and the slot that an image keeps for it.
use Rattle.std.specs.Prelude.{ℕ, ◌==◌, Option, Some, None, if◌then◌else◌}
use Rattle.ckd_track.specs.declared.model.DriveModel.{DriveModel}
use Rattle.ckd_track.specs.declared.model.DriveModel.TheVariants.{D2311, D2314}

-- tracks per cylinder
abbrev pub heads_of : DriveModel → ℕ
heads_of D2311 = 10
heads_of D2314 = 20

-- bytes that the records of a track may take, by their charges
abbrev pub capacity_of : DriveModel → ℕ
capacity_of D2311 = 3625
capacity_of D2314 = 7294

-- the track size of a new image, in bytes
abbrev pub slot_size_of : DriveModel → ℕ
slot_size_of D2311 = 4096
slot_size_of D2314 = 7680

-- the number that a drive is known by
abbrev pub model_number_of : DriveModel → ℕ
model_number_of D2311 = 2311
model_number_of D2314 = 2314

-- the drive of such a number
abbrev pub model_numbered : ℕ → Option DriveModel
model_numbered number = if number == 2311 then Some D2311 else (if number == 2314 then Some D2314 else None)
