-- A volume whose slots are read one at a time.
use Rattle.std.specs.Prelude.{◌≡◌, ℕ, ◌+◌, List, [], Option, Some, slice_index_or, Result, Err}
use Rattle.std.specs.Io.KnownBytes.{Appends}
use Rattle.ckd_track.specs.declared.geometries.Geometry.{Geometry}
use Rattle.dasd_volumes.specs.declared.fault.VolumeFault.{VolumeFault}
use Rattle.dasd_volumes.specs.declared.fault.VolumeFault.TheVariants.{Store}

-- What is known of a volume. Its slots are known where it is known what a read gives, as of bytes in memory; of a file of the
-- host they are not. The slot of a track that the volume lacks has no bytes.
pub record KnownVolume : Type 0 where
  pub geometry : Geometry
  pub slots : Option (List (List ℕ))
  -- the bytes before the slots, where they are known
  pub header : List ℕ
  -- how many slots were saved
  pub saves : ℕ

-- these bytes are the slot of a track, if the slots are known
abbrev pub IsSlotOf : KnownVolume → (track : ℕ) → (slot : List ℕ) → Type 0
IsSlotOf v track slot = (slots : List (List ℕ)) → v.slots ≡ Some slots → slot ≡ slice_index_or slots track []

-- what was printed is this text of the volume, if its slots are known
abbrev pub Prints : (Geometry → List (List ℕ) → List ℕ) → KnownVolume → (before now : Option (List ℕ)) → Type 0
Prints text v before now = (slots : List (List ℕ)) → v.slots ≡ Some slots → Appends before now (text v.geometry slots)

-- A volume was only read: it stays, and a failure is counted exactly where a fault of the store is reported.
abbrev pub IsRead : {A : Type 0} → Result A VolumeFault → (before now : KnownVolume) → (failed_before failed_now : ℕ) → Type 0
IsRead (Err Store) before now failed_before failed_now = (now ≡ before) × (failed_now ≡ failed_before + 1)
IsRead result before now failed_before failed_now = (now ≡ before) × (failed_now ≡ failed_before)
