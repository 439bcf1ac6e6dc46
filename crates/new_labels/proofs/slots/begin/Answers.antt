use Rattle.std.proofs.Common.{◌∙◌, ap, length}
use Rattle.new_labels.specs.Tracks.{filled}
use Rattle.new_labels.proofs.Filled.{begun}
use Rattle.new_labels.proofs.slots.begin.Goals as goal

pub returns-clause-written : goal.returns-clause-written
returns-clause-written c =
    begun c.args.slot.now _ _ c.track_front.result c.clear.ensures c.append.ensures.written
    ∙ ap (filled (length c.args.slot.now)) c.track_front.ensures
