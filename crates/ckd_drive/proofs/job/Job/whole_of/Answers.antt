use Rattle.std.proofs.Common.{rules, sym}
use Rattle.ckd_drive.specs.Jobs.{half_done}
use Rattle.ckd_drive.proofs.Wholes.{Lent, gives_whole, lends_unread, lends_next}
use Rattle.ckd_drive.proofs.job.Job.whole_of.Given.{Over}
use Rattle.ckd_drive.proofs.job.Job.whole_of.Goals.{After-is_readable}
use Rattle.ckd_drive.proofs.job.Job.whole_of.Goals as goal

-- the track is at hand, and its slot is in the buffer
lent : (g : Over) (c : After-is_readable g) → Lent (half_done c.args.self.now) c.args.kind c.in_ok-buffer.buffer.now
lent g c =
    record {
      at_hand = rw (c.track_at-track.ensures.number, c.geometry-geometry.ensures.geometry) at c.in_ok-buffer.ensures;
      reads = rw c.requires.command at c.requires.reads;
      aimed = rw c.requires.command at c.requires.aim;
    }

-- the track is not readable
pub returns-then-not-is_readable-clause-lends : goal.returns-then-not-is_readable-clause-lends
returns-then-not-is_readable-clause-lends g c =
    λ m. lends_unread (lent g (goal.at.returns-then-not-is_readable-clause-lends g c).After-is_readable) m
    (sym c.if-not-is_readable.ensures)

-- no area of the kind is found
pub returns-in_default-clause-lends : goal.returns-in_default-clause-lends
returns-in_default-clause-lends g c = λ m. lends_next (lent g (goal.at.returns-in_default-clause-lends g c).After-is_readable) m _
    (sym c.if-not-is_readable.ensures) c.in_default.ensures.next

pub returns-clause-lends : goal.returns-clause-lends
returns-clause-lends g c = λ m. lends_next (lent g (goal.at.returns-clause-lends g c).After-is_readable) m _
    (search rules) c.in-Found.ensures.next

pub returns-clause-gives : goal.returns-clause-gives
returns-clause-gives g c = λ m.
    let extent = rw c.requires.command at c.extent-extent.ensures in
    gives_whole (lent g (goal.at.returns-clause-gives g c).After-is_readable) m c.in-Found.found _ _ (search rules) c.in-Found.ensures.next
    (search (rules, extent)) (search (rules, extent)) (rw c.bytes.ensures (rw extent at c.part-no_data.ensures.lies.here))
