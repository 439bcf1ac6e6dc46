use Rattle.std.proofs.Common.{◌≡◌, ◌∙◌, ◌++◌, sym, subst, List, ℕ}
use Rattle.ckd_track.specs.declared.geometries.Geometry.{Geometry}
use Rattle.volume_changes.specs.declared.blocks.BlockChange.{BlockChange}
use Rattle.new_labels.specs.SetBlocks.{data_set_read, data_set_data}
use Rattle.volume_labels.specs.Labels.{data_set_block_of}
use Rattle.loaded_sets.specs.Sets.{areas}
use Rattle.loaded_sets.specs.Tables.{WritesBlock}
use Rattle.loaded_sets.specs.Volumes.{labelled}
use Rattle.loaded_sets.specs.Placed.{HasAreas}
use Rattle.loaded_sets.proofs.placed_images.write_set.Goals as goal

pub returns : goal.returns
returns c =
    let v = labelled c.args.volume.now in
    let p = c.args.placed.now in
    let listed = c.write_table.new.image in
    let before = c.args.image.now.slots in
    let now = c.write_tracks.new.image.slots in
    let first = p.run.first in
    let tracks = p.run.tracks in record {
      same = record {
        geometry = c.in_ok-write_tracks.ensures.same.geometry ∙ c.in_ok-address.ensures.same.geometry;
        lasting = c.in_ok-write_tracks.ensures.same.lasting ∙ c.in_ok-address.ensures.same.lasting;
      };
      written = record {
        written = record {
          changes = p.changes.items;
          taken = c.requires.placed.taken;
          listed = listed.slots;
          writes = subst (λ (x : List BlockChange). WritesBlock v x (c.args.set.now.name ++ data_set_data p.block) before
              c.in_ok-address.address listed.slots) c.as_slice-changes.ensures.value
              (subst (λ (b : List ℕ). WritesBlock v c.as_slice-changes.result.now (c.args.set.now.name ++ b) before
              c.in_ok-address.address listed.slots) c.data_set_data-bytes.ensures.bytes c.in_ok-address.ensures.writes);
          holds = subst (λ (g : Geometry). HasAreas g (areas c.args.set.now) first tracks listed.slots now)
              (c.in_ok-address.ensures.same.geometry ∙ sym c.requires.geometry) c.in_ok-write_tracks.ensures.areas;
        };
        read = subst (λ (b : List ℕ). data_set_block_of p.block.name b ≡ data_set_read p.block)
            c.data_set_data-bytes.ensures.bytes c.data_set_data-bytes.ensures.read;
      };
      fault = tt;
    }
