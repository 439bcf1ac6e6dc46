use Rattle.std.proofs.Common.{arith}
use Rattle.record_tracks.proofs.Rests.{fits_or_fault}
use Rattle.record_tracks.proofs.block_faults.block_fault.Goals as goal

pub returns-clause-fits : goal.returns-clause-fits
returns-clause-fits c =
    let b = c.args.blocks in fits_or_fault c.args.model c.args.layout c.args.key_length b.cut b.bytes.now c.cut_fault.result c.requires
    (omega arith) (omega arith) c.cut_fault.ensures
