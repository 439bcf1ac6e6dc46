use Rattle.std.proofs.Common.{◌∙◌, refl}
use Rattle.ckd_drive.specs.Invariant.{own_track}
use Rattle.ckd_drive.specs.Jobs.{half_done}
use Rattle.ckd_drive.proofs.Takes.{search_absorbs}
use Rattle.ckd_drive.proofs.job.Job.search.Goals as goal
use Rattle.ckd_drive.proofs.Standing.{slot_is}

pub returns : goal.returns
returns g c =
    let half = half_done c.args.self.now in
    let placed = rw c.requires.at at c.requires.may.works.goes.placed in
    rw (c.search_on.ensures, c.behind.ensures)
    record {
      absorbs = search_absorbs half c.args.bytes.now c.bytes.result.now c.args.window c.args.so_far c.compared-so_far.result c.requires.may
          c.requires.at
          (c.bytes.ensures ∙ slot_is half.cache (own_track half) c.buffer.result.now placed.0.at_hand.held c.buffer.ensures.slot)
          c.compared-so_far.ensures;
      stays = refl;
    }
