use Rattle.std.proofs.Common.{◌∙◌, arith}
use Rattle.ckd_image.proofs.NewVolumeLemmas.{length-so_far, not_longer, one_more}
use Rattle.ckd_image.proofs.new_volume.write_new_volume.Goals as goal

pub write_new_slot-requires-clause-begins : goal.write_new_slot-requires-clause-begins
write_new_slot-requires-clause-begins g c =
    let long = length-so_far c.args.geometry (g.S.ImageStore.content c.args.store.now) (g.S.ImageStore.content c.loop-track.store)
    c.loop-track.track c.requires c.loop-track.invariant.written in
    omega arith

pub returns-in_err-write_new_slot-clause-not_longer : goal.returns-in_err-write_new_slot-clause-not_longer
returns-in_err-write_new_slot-clause-not_longer g c =
    let bound = not_longer c.args.geometry (g.S.ImageStore.content c.args.store.now) (g.S.ImageStore.content c.loop-track.store)
    c.loop-track.track c.requires c.loop-track.invariant.written (omega arith) in
    rw c.in_err-write_new_slot.ensures.torn.same_length bound

pub loop-track-preserved : goal.loop-track-preserved
loop-track-preserved g c = record {
  written = one_more c.args.geometry (g.S.ImageStore.content c.args.store.now) (g.S.ImageStore.content c.loop-track.store)
      (g.S.ImageStore.content c.write_new_slot.new.store) c.loop-track.track c.requires c.loop-track.invariant.written
      c.in_ok-write_new_slot.ensures.written;
  same = c.write_new_slot.ensures.same ∙ c.loop-track.invariant.same;
  no_failure = c.in_ok-write_new_slot.ensures.counted ∙ c.loop-track.invariant.no_failure;
}
