use Rattle.std.proofs.Common.{arith, slice_index}
use Rattle.dasd_volumes.specs.Volumes.{holds}
use Rattle.dasd_archive.proofs.Sought.{none_is}
use Rattle.dasd_archive.proofs.numbered.has_number.Goals as goal

pub returns : goal.returns
returns c =
    none_is (λ r. holds c.args.numbers (slice_index r.id 4)) c.args.track.now.records
    (λ k below. c.loop-i.invariant k (let count = c.len-i-end.ensures.records in omega (arith, below, count)))
