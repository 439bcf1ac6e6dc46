-- Blocks of a volume, in memory.
use Rattle.std.specs.Prelude.{◌≡◌, ℕ, List, Some}
use Rattle.ckd_track.specs.declared.geometries.Geometry.{Geometry}
use Rattle.dasd_volumes.specs.Reading.{KnownVolume}
use Rattle.dasd_extract.specs.Walk.{Wanted, source_written}
use Rattle.library_contents.specs.declared.listed_blocks.Blocks.{Blocks}

-- these are the bytes of a source, and this is where they end
pub record BlocksIn (s : Wanted) (g : Geometry) (slots : List (List ℕ)) (b : Blocks) : Type 0 where
  pub bytes : b.bytes.items ≡ (source_written s g slots).bytes
  pub stop : Some b.stop ≡ (source_written s g slots).stop

-- the same, if the slots of the volume are known
abbrev pub BlocksOf : Wanted → KnownVolume → Blocks → Type 0
BlocksOf s v b = (slots : List (List ℕ)) → v.slots ≡ Some slots → BlocksIn s v.geometry slots b
