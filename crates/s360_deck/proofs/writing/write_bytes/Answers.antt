use Rattle.s360_deck.proofs.Written.{fewer_left, slice_end}
use Rattle.s360_deck.proofs.writing.write_bytes.Goals as goal

pub loop-rest-preserved : goal.loop-rest-preserved
loop-rest-preserved g c =
    fewer_left _ _ _ _ c.loop-rest.rest.now _ c.in-Ok.count (slice_end c.loop-rest.rest.now c.in-Ok.count) c.loop-rest.invariant
    c.in-Ok.ensures.bytes
