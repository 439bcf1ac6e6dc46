use Rattle.new_labels.proofs.Walked.{IsWalked}
use Rattle.new_labels.proofs.runs.free_run.Given as goal

abbrev pub invariant-loop-track : goal.invariant-loop-track
invariant-loop-track l = IsWalked l.geometry (record { extents = l.extents; marks = l.marks }) l.tracks l.track l.free
