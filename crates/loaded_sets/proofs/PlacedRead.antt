-- What a reader of the volume has of a data set that was put onto it.
use Rattle.std.proofs.Common.{◌≡◌, ◌∙◌, ap, sym, refl, subst, ℕ, ◌+◌, ◌≤◌, List, [], ◌∷◌, ◌++◌, flat_map, arith, false, None}
use Rattle.std.proofs.Math.Nat.{le-max_right}
use Rattle.ckd_track.specs.Geometry.{tracks_of}
use Rattle.ckd_track.specs.declared.geometries.Geometry.{Geometry}
use Rattle.record_tracks.specs.Records.{Areas}
use Rattle.record_tracks.specs.ReadBack.{IsLoaded, IsLoadedAt}
use Rattle.record_tracks.specs.Tracks.{left_behind}
use Rattle.volume_labels.specs.declared.addresses.TrackPlace.{TrackPlace}
use Rattle.new_labels.specs.declared.set_blocks.NewDataSet.{NewDataSet}
use Rattle.new_labels.specs.SetBlocks.{data_set_read, nowhere}
use Rattle.new_labels.specs.Extents.{HasRun}
use Rattle.volume_labels.specs.Labels.{data_set_block_of}
use Rattle.volume_labels.specs.declared.blocks.DataSetBlock.{DataSetBlock}
use Rattle.volume_labels.specs.declared.fields.Extent.{Extent}
use Rattle.volume_contents.specs.declared.blocks.Block.{Block}
use Rattle.volume_contents.specs.Contents.{contents_of, block_in}
use Rattle.volume_contents.specs.Chains.{links_from, Links, ended}
use Rattle.volume_contents.specs.Sets.{extents_behind, extents_in, first_extents}
use Rattle.loaded_sets.specs.declared.plans.PlacedSet.{PlacedSet}
use Rattle.loaded_sets.specs.Volumes.{Labelled}
use Rattle.loaded_sets.specs.Sets.{areas}
use Rattle.loaded_sets.specs.Placed.{HasAreas, GetsSet}

-- no block is behind one that says nowhere
ends : (blocks : List Block) → links_from 21 false blocks nowhere ≡ ended None
unfolding links_from
ends blocks = refl

-- a format 1 block of a new data set says one extent
pub one_extent : (blocks : List Block) (b : Block) (s : NewDataSet) → data_set_block_of b.key b.bytes ≡ data_set_read s
    → s.extent.kind ≡ 1 → extents_behind blocks b ≡ s.extent ∷ []
one_extent blocks b s read kind =
    ap (λ (d : DataSetBlock). first_extents d ++ flat_map extents_in (links_from 21 false blocks d.next).links) read
    ∙ ap (λ (l : Links). first_extents (data_set_read s) ++ flat_map extents_in l.links) (ends blocks) ∙ rw kind refl

-- the tracks of that extent have the areas
pub are_loaded : (g : Geometry) (e : Extent) (areas : List Areas) (first tracks : ℕ) (before now : List (List ℕ))
    → HasRun g first tracks e → first + tracks ≤ tracks_of g → HasAreas g areas first tracks before now
    → IsLoaded g (e ∷ []) now areas tracks
are_loaded g e areas first tracks before now run within holds i there =
    subst (λ (p : TrackPlace). IsLoadedAt g now (left_behind g.model areas i) p) (sym (run i there))
    (omega (arith, within, there), holds.within i there)

-- those that its records take have them
pub first_loaded : (v : Labelled) (set : PlacedSet) (before : List (List ℕ)) (tracks : ℕ) (now : List (List ℕ))
    → (gets : GetsSet v set before tracks now)
    → IsLoaded v.geometry (extents_behind (contents_of v.geometry now).blocks (block_in (contents_of v.geometry now).blocks gets.place)) now
    (areas set) gets.gets.room.used
first_loaded v set before tracks now gets i there = gets.loaded i (omega (arith, le-max_right set.label.tracks gets.gets.room.used))
