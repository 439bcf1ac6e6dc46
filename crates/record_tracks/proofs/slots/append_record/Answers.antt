use Rattle.std.proofs.Common.{◌∙◌, ◌++◌, arith, length-append}
use Rattle.record_tracks.proofs.Filled.{two_puts}
use Rattle.record_tracks.proofs.slots.append_record.Goals as goal

pub returns-clause-written : goal.returns-clause-written
returns-clause-written c =
    let count = c.count_bytes.result in
    let key = c.args.block.key.now in
    let bytes = c.args.block.bytes.now in
    let s0 = c.args.slot.now in
    let first = two_puts c.args.at c.append-at.result count key s0 c.append-at.new.room c.append-at-2.new.room
    c.append-at.ensures.written c.append-at-2.ensures.written c.append-at.ensures.next c.append-at.ensures.same in
    let both = two_puts c.args.at c.append-at-2.result (count ++ key) bytes s0 c.append-at-2.new.room c.append.new.room
    first c.append.ensures.written (omega (arith, length-append count key)) (c.append-at-2.ensures.same ∙ c.append-at.ensures.same) in
    rw c.count_bytes.ensures at both
