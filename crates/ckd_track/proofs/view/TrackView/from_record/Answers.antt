-- The bytes at a record's offset begin with it.
use Rattle.ckd_track.proofs.Offsets.{begins_in}
use Rattle.ckd_track.proofs.view.TrackView.from_record.Goals as goal

pub returns : goal.returns
returns c = begins_in c.self.inside.slot.now c.args.self.now c.args.i c.offset.result c.offset.ensures c.self.view_is c.self.invariant.0
    c.requires
