use Rattle.std.proofs.Common.{◌<◌, sym, length, arith}
use Rattle.record_tracks.proofs.Going.{entry_at, is_at, length-entry}
use Rattle.record_tracks.proofs.entries.bytes_at.Goals as goal

pub entry_front-requires : goal.entry_front-requires
entry_front-requires c = is_at c.args.entries.now c.args.number _ c.requires.each (omega arith)

pub returns-clause-bytes : goal.returns-clause-bytes
returns-clause-bytes c = rw c.entry_front.ensures (sym (entry_at c.args.entries.now c.args.number _ (omega arith)))

pub returns-clause-size : goal.returns-clause-size
returns-clause-size c =
    let there : c.args.number < length c.args.entries.now = omega arith in
    cc (entry_at c.args.entries.now c.args.number _ there, length-entry _ (is_at c.args.entries.now c.args.number _ c.requires.each there))

pub returns-clause-short : goal.returns-clause-short
returns-clause-short c = (is_at c.args.entries.now c.args.number _ c.requires.each (omega arith)).user_data
