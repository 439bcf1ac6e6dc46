-- What is read of a volume for a data set.
use Rattle.std.specs.Prelude.{◌≡◌, ◌⊎◌, ℕ, ◌==◌, Bool, true, false, ◌&&◌, nat_lt, List, Result, Ok, Err}
use Rattle.ckd_track.specs.declared.fault.SlotFault.{SlotFault}
use Rattle.ckd_track.specs.declared.geometries.Geometry.{Geometry}
use Rattle.ckd_track.specs.Geometry.{track_at}
use Rattle.ckd_track.specs.Model.{heads_of}
use Rattle.ckd_track.specs.Track.{Track}
use Rattle.new_labels.specs.Runs.{is_taken}
use Rattle.volume_contents.specs.Contents.{slot_at}
use Rattle.dasd_extract.specs.Alternates.{is_defective, has_record_0, named_by, is_other}
use Rattle.dasd_extract.specs.Walk.{Wanted, track_on, source_written}

-- a defective track names the volume's track m as its alternate
abbrev pub is_alternate_of : Geometry → Result Track SlotFault → (m : ℕ) → Bool
is_alternate_of g (Ok t) m =
    (is_defective t && has_record_0 t)
    && ((nat_lt (named_by t).cylinder g.cylinders && nat_lt (named_by t).head (heads_of g.model))
    && (track_at g (named_by t).cylinder (named_by t).head == m))
is_alternate_of g (Err fault) m = false

-- neither of these slots is that of an alternate track, so neither is read in the place of another track
pub record AreOthers (before now : List (List ℕ)) (m : ℕ) : Type 0 where
  pub was : is_other (track_on before m) ≡ true
  pub is : is_other (track_on now m) ≡ true

-- The slots stay that are read for a data set: those of its tracks, and those of the alternates that these name, as far as they are
-- alternates.
pub record StaysRead (g : Geometry) (s : Wanted) (before now : List (List ℕ)) : Type 0 where
  pub own : (n : ℕ) → is_taken g s.extents n ≡ true → slot_at now n ≡ slot_at before n
  pub alternates : (n m : ℕ) → is_taken g s.extents n ≡ true → is_alternate_of g (track_on before n) m ≡ true
      → (slot_at now m ≡ slot_at before m) ⊎ AreOthers before now m

-- then the same is extracted of it
abbrev pub SourceStays : Type 0
SourceStays = (g : Geometry) (s : Wanted) (before now : List (List ℕ)) → StaysRead g s before now
    → source_written s g now ≡ source_written s g before
