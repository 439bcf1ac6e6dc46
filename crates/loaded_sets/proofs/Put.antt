-- A volume that a data set was put onto.
use Rattle.std.proofs.Common.{◌≡◌, ◌∙◌, ap, sym, subst, ℕ, List, [], ◌∷◌}
use Rattle.record_tracks.specs.ReadBack.{IsLoaded}
use Rattle.volume_labels.specs.declared.fields.Extent.{Extent}
use Rattle.volume_labels.specs.declared.fields.RecordAddress.{RecordAddress}
use Rattle.volume_contents.specs.Contents.{contents_of, block_in}
use Rattle.volume_contents.specs.Sets.{extents_behind}
use Rattle.loaded_sets.specs.declared.plans.PlacedSet.{PlacedSet}
use Rattle.loaded_sets.specs.declared.plans.Placed.{Placed}
use Rattle.loaded_sets.specs.Volumes.{Labelled}
use Rattle.loaded_sets.specs.Sets.{areas}
use Rattle.loaded_sets.specs.Placed.{HasSet, GetsSet}
use Rattle.loaded_sets.specs.PlacedParts.{IsPlaced, IsWritten}
use Rattle.loaded_sets.proofs.PlacedRead.{one_extent, are_loaded}

module _ (v : Labelled) (set : PlacedSet) (p : Placed) (before now : List (List ℕ)) where
  module _ (placed : IsPlaced v before set p) (a : RecordAddress) (is : IsWritten v set p before a now) (i : ℕ) where
    module _ (has : HasSet v (contents_of v.geometry now) p.block a i) where
      extents : extents_behind (contents_of v.geometry now).blocks (block_in (contents_of v.geometry now).blocks i) ≡ p.block.extent ∷ []
      extents = one_extent (contents_of v.geometry now).blocks (block_in (contents_of v.geometry now).blocks i) p.block
          (rw (has.key, has.bytes) is.read) (ap (λ (e : Extent). e.kind) placed.new.extent)

      loaded : IsLoaded v.geometry (p.block.extent ∷ []) now (areas set) p.run.tracks
      loaded = are_loaded v.geometry p.block.extent (areas set) p.run.first p.run.tracks is.written.listed now placed.run placed.within
          is.written.holds

      pub put : GetsSet v set before p.run.tracks now
      put = record {
        first = p.run.first;
        gets = placed.gets;
        block = p.block;
        new = placed.new;
        address = a;
        written = is.written;
        others = λ n out. is.written.holds.outside n out.0 ∙ is.written.writes.others n out.1;
        place = i;
        has = has;
        extents = extents;
        loaded = subst (λ (e : List Extent). IsLoaded v.geometry e now (areas set) p.run.tracks) (sym extents) loaded;
      }
