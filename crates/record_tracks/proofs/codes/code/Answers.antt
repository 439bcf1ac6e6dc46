use Rattle.std.proofs.Common.{arith, sym}
use Rattle.record_tracks.proofs.Found.{none_from}
use Rattle.record_tracks.proofs.codes.code.Goals as goal

pub returns-then-number-ge256 : goal.returns-then-number-ge256
returns-then-number-ge256 c = sym (none_from c.args.character (omega arith))
