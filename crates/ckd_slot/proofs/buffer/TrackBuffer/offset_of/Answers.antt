use Rattle.std.proofs.Common.{arith}
use Rattle.ckd_slot.proofs.AreaPlaces.{table_past, table_there}
use Rattle.ckd_slot.proofs.buffer.TrackBuffer.offset_of.Goals as goal

pub returns-then-i-n : goal.returns-then-i-n
returns-then-i-n c =
    let x = rw (c.self.view_is, c.in-Some.is) at c.self.invariant in
    table_past c.args.i x.indexed.read (omega arith)

pub returns : goal.returns
returns c =
    let x = rw (c.self.view_is, c.in-Some.is) at c.self.invariant in
    table_there c.args.i c.index.result.now x.indexed.read c.if-i-n.false c.index.ensures
