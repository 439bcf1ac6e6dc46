use Rattle.s360_laws.proofs.run_laws.unsaved_was_written.Goals as goal
use Rattle.s360_laws.proofs.UnsavedTracks.{unsaved_was_written}

pub returns : goal.returns
returns c = unsaved_was_written
