use Rattle.std.proofs.Common.{◌≡◌, refl, rules}
use Rattle.ckd_track.specs.Track.{track_of}
use Rattle.ckd_command.specs.Commands.{sight}
use Rattle.ckd_drive.specs.Invariant.{own_track, own_slot}
use Rattle.ckd_drive.specs.Jobs.{half_done}
use Rattle.ckd_drive.proofs.Looks.{seen_there}
use Rattle.ckd_drive.proofs.job.Job.look_at.Goals as goal
use Rattle.ckd_drive.proofs.Standing.{slot_is}

pub returns : goal.returns
unfolding sight
returns g c =
    let job = c.args.self.now in
    let half = half_done job in
    let slot : c.buffer-buffer.result.now ≡ own_slot half = slot_is half.cache (own_track half) c.buffer-buffer.result.now c.requires.held
    c.buffer-buffer.ensures.slot in
    record {
      seen_is = rw (← slot, ← c.geometry-geometry.ensures.geometry) (search rules);
      there = rw (← slot, c.sight_of.ensures.seen) (seen_there c.geometry-geometry.result (track_of c.buffer-buffer.result.now) job.opened
          job.registers c.next_area-next.result c.next_area-next.ensures.on_track);
      registers = c.sight_of.ensures.stays;
      stays = refl;
    }
