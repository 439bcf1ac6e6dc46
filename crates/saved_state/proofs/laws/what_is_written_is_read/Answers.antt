use Rattle.saved_state.proofs.RoundTrip.{written_is_read}
use Rattle.saved_state.proofs.laws.what_is_written_is_read.Goals as goal

pub returns : goal.returns
returns c = written_is_read
