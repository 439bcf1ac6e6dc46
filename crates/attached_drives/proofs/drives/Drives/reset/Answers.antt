use Rattle.std.proofs.Common.{◌<◌, subst, arith}
use Rattle.attached_drives.proofs.Fronts.{one_more, rests_next}
use Rattle.attached_drives.proofs.drives.Drives.reset.Goals as goal

pub reset_at-requires : goal.reset_at-requires
reset_at-requires g c = (
  omega arith,
  rests_next c.args.self.now c.loop-place.self c.loop-place.place c.loop-place.invariant
      (subst (λ n. c.loop-place.place < n) c.len-place-end.ensures.count c.loop-place-test.true) c.requires,
)

pub loop-place-preserved : goal.loop-place-preserved
loop-place-preserved g c = one_more c.args.self.now c.loop-place.self c.reset_at.new.self c.loop-place.place c.loop-place.invariant
    c.reset_at.ensures
