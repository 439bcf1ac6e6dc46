use Rattle.std.proofs.Common.{◌<◌, subst, arith}
use Rattle.attached_drives.proofs.Backs.{back_next, one_more}
use Rattle.attached_drives.proofs.drives.Drives.put_back.Goals as goal

pub put_back_at-requires : goal.put_back_at-requires
put_back_at-requires g c = (
  omega arith,
  back_next c.args.saved.now c.args.self.now c.loop-place.self c.loop-place.place c.loop-place.invariant
      (subst (λ n. c.loop-place.place < n) c.len-place-end.ensures.count c.loop-place-test.true) c.requires.rests c.requires.tracks,
)

pub loop-place-preserved : goal.loop-place-preserved
loop-place-preserved g c = one_more c.args.saved.now c.args.self.now c.loop-place.self c.put_back_at.new.self c.loop-place.place
    c.loop-place.invariant c.put_back_at.ensures
