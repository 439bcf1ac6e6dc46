use Rattle.std.proofs.Common.{refl}
use Rattle.ckd_track.specs.Track.{track_of}
use Rattle.ckd_slot.proofs.AreaPlaces.{read_by}
use Rattle.ckd_slot.proofs.buffer.index.Goals as goal

pub returns : goal.returns
returns c = rw c.ok.ensures.value (read_by c.args.slot.now c.index_slot.new.table c.index_slot.result
    (track_of c.args.slot.now) c.type_inv.slot refl c.index_slot.ensures.number c.index_slot.ensures.offsets c.index_slot.ensures.within)
