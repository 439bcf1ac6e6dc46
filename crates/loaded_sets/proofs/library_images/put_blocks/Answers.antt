use Rattle.std.proofs.Common.{◌∙◌, ap, refl, map}
use Rattle.record_tracks.specs.Library.{member_areas}
use Rattle.loaded_sets.specs.Volumes.{labelled}
use Rattle.loaded_sets.specs.LibraryParts.{member_blocks}
use Rattle.loaded_sets.proofs.LibraryPlaced.{members_go}
use Rattle.loaded_sets.proofs.LibraryRead.{is_set}
use Rattle.loaded_sets.proofs.library_images.put_blocks.Goals as goal

pub put_named-requires-clause-members : goal.put_named-requires-clause-members
put_named-requires-clause-members c = members_go c.args.volume.now.geometry.model c.args.blocks.cut _ (member_blocks c.args.blocks).members
    (ap (map member_areas) c.as_slice-2.ensures.value ∙ c.in-Ok.ensures ∙ ap (map _) c.as_slice.ensures.value
    ∙ c.in_ok-records.ensures.areas)
    c.in_ok-records.ensures.each

pub returns-clause-set : goal.returns-clause-set
returns-clause-set c = is_set (labelled c.args.volume.now) c.args.library.now (member_blocks c.args.blocks) _ refl c.label_of.ensures
    (record {
      directory_blocks = refl;
      entries = refl;
      members = ap (map member_areas) c.as_slice-2.ensures.value ∙ c.in-Ok.ensures ∙ ap (map _) c.as_slice.ensures.value
          ∙ c.in_ok-records.ensures.areas;
    })
    c.args.image.now.slots c.in_ok-records.ensures.fit c.in_ok-records.ensures.each c.put_named.new.image.slots c.put_named.result
    c.put_named.ensures.named
