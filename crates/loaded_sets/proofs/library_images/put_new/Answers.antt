use Rattle.std.proofs.Common.{◌≡◌, sym, refl, ℕ, Ok, List, map, Bor}
use Rattle.loaded_sets.specs.Volumes.{labelled}
use Rattle.loaded_sets.specs.Members.{members_by}
use Rattle.loaded_sets.specs.LibraryParts.{member_blocks}
use Rattle.loaded_sets.proofs.LibraryFits.{as_they_are, put, not_put_if}
use Rattle.loaded_sets.proofs.library_images.put_new.Goals as goal

pub returns-in-Blocks : goal.returns-in-Blocks
returns-in-Blocks c =
    let v = labelled c.args.volume.now in
    let library = c.args.library.now in
    let l = c.in-Ok.layout in
    let files : List (List ℕ) = map (λ (m : Bor (List ℕ)). m.now) library.members.now in
    let b = member_blocks (record { layout = l; cut = c.cut_in-cut.result; members = library.members }) in
    let by : members_by library.source l files ≡ Ok b.members = as_they_are library.source l files c.in-Blocks.is in record {
      same = c.put_blocks.ensures.same;
      put = put v library c.requires.free l (sym c.in-Ok.ensures) b refl c.cut_in-cut.ensures.cut by c.args.image.now.slots
          c.put_blocks.new.image.slots c.put_blocks.result c.put_blocks.ensures.set;
      fault = not_put_if v library c.requires.free l (sym c.in-Ok.ensures) b refl c.cut_in-cut.ensures.cut by c.args.image.now.slots
          c.put_blocks.result c.put_blocks.ensures.fault;
    }
