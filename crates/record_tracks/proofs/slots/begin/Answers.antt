use Rattle.record_tracks.proofs.Filled.{begun}
use Rattle.record_tracks.proofs.slots.begin.Goals as goal

pub returns-clause-written : goal.returns-clause-written
returns-clause-written c = cc (begun c.args.slot.now _ _ c.track_front.result c.clear.ensures c.append.ensures.written)
