use Rattle.record_tracks.proofs.Printed.{is_printed}
use Rattle.record_tracks.proofs.text_laws.text_is_printed.Goals as goal

pub returns : goal.returns
returns c = is_printed
