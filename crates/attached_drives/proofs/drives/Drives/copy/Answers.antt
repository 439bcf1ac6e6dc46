use Rattle.std.proofs.Common.{◌<◌, ◌≤◌, subst, arith}
use Rattle.attached_drives.proofs.Copies.{has_room, copied_more, copied_all}
use Rattle.attached_drives.proofs.drives.Drives.copy.Goals as goal

pub at-requires : goal.at-requires
at-requires g c = (omega arith, subst (λ n. c.loop-place.place < n) c.len-place-end.ensures.count c.loop-place-test.true)

pub push-requires : goal.push-requires
push-requires g c = (
  omega arith,
  has_room c.args.self.now c.loop-place.copies c.loop-place.place c.loop-place.invariant
      (subst (λ n. c.loop-place.place < n) c.len-place-end.ensures.count c.loop-place-test.true)
      (subst (λ n. n ≤ 8) c.len-place-end.ensures.count c.len-place-end.ensures.few),
)

pub loop-place-preserved : goal.loop-place-preserved
loop-place-preserved g c = copied_more c.args.self.now c.loop-place.copies c.push.new.self c.loop-place.place c.at.result.now _
    c.loop-place.invariant c.at.ensures c.in_ok-copy.ensures c.push.ensures

pub returns : goal.returns
returns g c = copied_all c.args.self.now c.loop-place.copies c.loop-place.place c.loop-place.invariant
    (subst (λ n. n ≤ c.loop-place.place) c.len-place-end.ensures.count c.loop-place-test.false)
