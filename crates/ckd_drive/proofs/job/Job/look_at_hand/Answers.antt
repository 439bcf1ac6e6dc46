use Rattle.std.proofs.Common.{◌∙◌, ◌+◌, ap, sym, refl, Some, rules}
use Rattle.ckd_command.specs.Answers.{moved_to}
use Rattle.ckd_drive.specs.Invariant.{HalfDone, own_track}
use Rattle.ckd_drive.specs.Calls.{Leaves, Loses}
use Rattle.ckd_drive.specs.Jobs.{half_done}
use Rattle.ckd_drive.proofs.Calls.{loads_saved}
use Rattle.ckd_drive.proofs.Looks.{FoundAgain, found_again, found_looks, passed_looks, missed_looks, next_looks, lost_looks}
use Rattle.ckd_drive.proofs.Standing.{slot_is}
use Rattle.ckd_drive.proofs.job.Job.look_at_hand.Given.{Over}
use Rattle.ckd_drive.proofs.job.Job.look_at_hand.Goals.{After-buffer}
use Rattle.ckd_drive.proofs.job.Job.look_at_hand.Goals as goal

-- the slot in which the area was found is in the buffer
found : (g : Over) (c : After-buffer g) → FoundAgain (half_done c.args.self.now) (record c.args.self.now.opened {
  area = Some c.in-Found.area;
}) c.buffer.result.now
found g c =
    let old = half_done c.args.self.now in
    found_again old _ c.buffer.result.now c.args.kind c.requires.aim (rw c.in-Found.is at c.look_at.ensures.seen_is) (c.buffer.ensures.slot
    ∙ rw c.look_at.ensures.stays (slot_is old.cache (own_track old) _ c.requires.held refl))

pub place_on-requires : goal.place_on-requires
place_on-requires g c =
    let x = found g (goal.at.place_on-requires g c).After-buffer in
    record {
      command = search rules;
      aim = search rules;
      readable = rw (x.slot_is, c.look_at.ensures.stays) x.whole;
      there = rw (x.slot_is, c.look_at.ensures.stays) (rw c.in-Found.is at c.look_at.ensures.there).1;
    }

pub returns-in-Found : goal.returns-in-Found
returns-in-Found g c =
    let old = half_done c.args.self.now in
    let x = found g (goal.at.returns-in-Found g c).After-buffer in
    let p = c.place_on in
    let placed = rw c.look_at.ensures.stays at (p.ensures.first old.registers) in
    let ready = rw c.look_at.ensures.stays at p.ensures.ready in
    rw (c.look_at.ensures.stays, (rw c.in-Found.is at c.look_at.ensures.registers))
    record {
      looks = found_looks old c.args.mark.now c.requires.stands _ p.new.progress p.result (rw x.slot_is at placed)
          (λ _. record { held = c.requires.held; whole = x.whole }) x.again x.first ready p.ensures.passing;
      loads = refl;
    }

pub returns-in-IndexPassed : goal.returns-in-IndexPassed
returns-in-IndexPassed g c =
    rw c.look_at.ensures.stays
    record {
      looks = passed_looks _ c.args.mark.now c.requires.stands c.look_at.new.self.registers c.args.kind c.requires.aim
          c.requires.held (sym (rw c.in-IndexPassed.is at c.look_at.ensures.seen_is));
      loads = refl;
    }

pub returns-in-Missed : goal.returns-in-Missed
returns-in-Missed g c =
    rw c.look_at.ensures.stays
    record {
      looks = missed_looks _ c.args.mark.now c.requires.stands c.look_at.new.self.registers c.requires.held
          (sym (rw c.in-Missed.is at c.look_at.ensures.seen_is));
      loads = refl;
    }

pub returns-in-Ok : goal.returns-in-Ok
returns-in-Ok g c =
    let q = c.look_at.new.self.registers in
    let left : Leaves (half_done c.args.self.now) (half_done c.leave.new.self) c.leave.new.mark (moved_to q q.cylinder (q.head + 1)) =
    rw c.look_at.ensures.stays at c.in-Ok.ensures.leaves in
    record {
      looks = next_looks _ c.args.mark.now c.requires.stands _ _ _ c.args.kind c.requires.aim
          (sym (rw c.in-NextHead.is at c.look_at.ensures.seen_is)) left;
      loads = ap (λ (h : HalfDone). h.cache.image.loads) left.0 ∙ loads_saved c.args.self.now.cache;
    }

pub returns-in-Err : goal.returns-in-Err
returns-in-Err g c =
    let lost : Loses (half_done c.args.self.now) (half_done c.leave.new.self) c.leave.new.mark =
    rw (c.look_at.ensures.stays, (rw c.in-NextHead.is at c.look_at.ensures.registers)) at c.in-Err.ensures.loses in
    record {
      looks = lost_looks _ c.args.mark.now c.requires.stands _ _ _ (sym (rw c.in-NextHead.is at c.look_at.ensures.seen_is)) lost;
      loads = ap (λ (h : HalfDone). h.cache.image.loads) lost.job;
    }
