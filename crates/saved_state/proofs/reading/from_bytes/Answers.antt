use Rattle.std.proofs.Common.{lit≤}
use Rattle.saved_state.proofs.Joining.{first_long}
use Rattle.saved_state.proofs.reading.from_bytes.Goals as goal

pub slice_bounds-checksum-end : goal.slice_bounds-checksum-end
slice_bounds-checksum-end c = first_long c.args.bytes.now 534 538 c.if-bytes-ne-LENGTH.false (lit≤ tt)
