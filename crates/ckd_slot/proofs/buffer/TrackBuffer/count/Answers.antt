use Rattle.ckd_slot.proofs.Writes.{records_are}
use Rattle.ckd_slot.proofs.buffer.TrackBuffer.count.Goals as goal

pub returns : goal.returns
returns c = records_are c.unwrap_or.result (rw c.self.view_is at c.self.invariant) c.requires c.unwrap_or.ensures
