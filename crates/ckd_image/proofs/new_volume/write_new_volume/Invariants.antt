use Rattle.std.proofs.Common.{◌≡◌}
use Rattle.ckd_image.specs.Store.{overwritten}
use Rattle.ckd_image.proofs.NewVolumeLemmas.{begun}
use Rattle.ckd_image.proofs.new_volume.write_new_volume.Given as goal

abbrev pub invariant-loop-track : goal.invariant-loop-track
invariant-loop-track g l = record {
  written : g.S.ImageStore.content l.store ≡ overwritten (g.S.ImageStore.content l.fn.store) 0 (begun l.geometry l.track);
  same : g.S.ImageStore.origin l.store ≡ g.S.ImageStore.origin l.fn.store;
  no_failure : g.S.ImageStore.failures l.store ≡ g.S.ImageStore.failures l.fn.store;
}
