use Rattle.ckd_drive.specs.Jobs.{half_done, parts_held}
use Rattle.ckd_drive.proofs.job.Job.look_for_next.Goals as goal
use Rattle.ckd_drive.proofs.Looks.{held_looks, unloaded_looks}

pub returns-in-Ok : goal.returns-in-Ok
returns-in-Ok g c =
    let old = half_done c.args.self.now in
    let h = c.look_at_hand in
    held_looks old c.args.mark.now c.requires.stands c.hold.new.self c.args.kind (parts_held h.new.self h.new.mark h.result) c.requires.aim
    (rw (c.track_at-track.ensures.number, c.geometry.ensures.geometry) at c.in-Ok.ensures.ok) h.ensures.loads h.ensures.looks

pub returns-in-Err : goal.returns-in-Err
returns-in-Err g c =
    let old = half_done c.args.self.now in
    unloaded_looks old c.args.mark.now c.requires.stands c.hold.new.self c.add_cause.new.registers c.args.kind c.requires.aim
    (rw (c.track_at-track.ensures.number, c.geometry.ensures.geometry) at c.in-Err.ensures.fails) c.in-Err.ensures.err c.add_cause.ensures
