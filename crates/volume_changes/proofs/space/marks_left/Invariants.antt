use Rattle.std.proofs.Common.{◌≡◌, ◌∷◌, [], length}
use Rattle.dasd_volumes.specs.Volumes.{of_each}
use Rattle.volume_changes.specs.Space.{mark_left}
use Rattle.volume_changes.proofs.space.marks_left.Given as goal

-- the marks of the tracks so far
abbrev pub invariant-loop-track : goal.invariant-loop-track
invariant-loop-track l = record {
  marks : l.marks.items ≡ of_each (λ n. mark_left l.geometry l.pieces l.run.0 l.run.1 n ∷ []) l.track;
  all : length l.marks.items ≡ l.track;
}
