use Rattle.std.proofs.Common.{◌++◌, ◌∷◌, [], subst}
use Rattle.ckd_track.specs.declared.geometries.Geometry.{Geometry}
use Rattle.loaded_folders.specs.Loads.{GetsOne}
use Rattle.loaded_folders.specs.Parts.{folder_set, IsNotOne}
use Rattle.loaded_folders.proofs.Chains.{split, one_more, gets_more, same_through}
use Rattle.loaded_folders.proofs.Told.{stops}
use Rattle.loaded_folders.proofs.images.load_all.Goals as goal

-- the next data set is not loaded
pub returns-in-Err-clause-fault : goal.returns-in-Err-clause-fault
returns-in-Err-clause-fault c =
    let i = c.loop-set.invariant in
    stops c.args.source _ i.done _ (folder_set c.set-item.result)
    (split folder_set c.args.sets.now c.loop-set.set-index i.done i.passed c.set-item.result c.set-item.is c.loop-set-test.true)
    c.args.image.now.geometry c.args.image.now.slots c.loop-set.image.slots _ i.loaded c.in-Err.fault
    (subst (λ (g : Geometry). IsNotOne c.in-Err.fault c.args.source (folder_set c.set-item.result) g c.loop-set.image.slots) i.same.geometry
    c.in-Err.ensures.fault)

pub loop-set-preserved : goal.loop-set-preserved
loop-set-preserved c =
    let i = c.loop-set.invariant in
    record {
      same = same_through c.args.image.now c.loop-set.image c.load_one.new.image i.same c.load_one.ensures.same;
      done = i.done ++ folder_set c.set-item.result ∷ [];
      passed =
          one_more folder_set c.args.sets.now c.loop-set.set-index i.done i.passed c.set-item.result c.set-item.is c.loop-set-test.true;
      loaded =
          rw c.in-Ok-push_line.ensures.line
          (gets_more c.args.source i.done (folder_set c.set-item.result) c.args.image.now.geometry c.args.image.now.slots
          c.loop-set.image.slots c.load_one.new.image.slots _ c.in-Ok.tracks i.loaded
          (subst (λ (g : Geometry). GetsOne c.args.source (folder_set c.set-item.result) g c.loop-set.image.slots c.in-Ok.tracks
          c.load_one.new.image.slots) i.same.geometry c.in-Ok.ensures.loaded));
    }
