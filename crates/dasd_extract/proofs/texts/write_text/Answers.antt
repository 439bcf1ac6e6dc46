use Rattle.dasd_extract.proofs.Spelled.{fewer_left}
use Rattle.dasd_extract.proofs.texts.write_text.Goals as goal

pub loop-rest-preserved : goal.loop-rest-preserved
loop-rest-preserved g c =
    fewer_left _ _ _ _ c.loop-rest.rest.now c.split_at.result.0.now c.split_at.result.1.now c.min.result c.split_at.ensures.front
    c.split_at.ensures.back
    c.loop-rest.invariant c.in_ok-write_chunk.ensures
