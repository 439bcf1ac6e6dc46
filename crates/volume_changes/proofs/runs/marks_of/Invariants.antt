use Rattle.std.proofs.Common.{◌≡◌, ◌∷◌, [], length}
use Rattle.dasd_volumes.specs.Volumes.{of_each}
use Rattle.volume_changes.specs.Runs.{mark_of}
use Rattle.volume_changes.proofs.runs.marks_of.Given as goal

-- the marks of the tracks so far
abbrev pub invariant-loop-track : goal.invariant-loop-track
invariant-loop-track l = record {
  marks : l.marks.items ≡ of_each (λ n. mark_of l.geometry l.pieces l.extents n ∷ []) l.track;
  all : length l.marks.items ≡ l.track;
}
