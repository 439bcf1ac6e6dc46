use Rattle.std.proofs.Common.{◌≡◌, ◌∷◌, [], length}
use Rattle.dasd_volumes.specs.Volumes.{of_each}
use Rattle.volume_changes.specs.Space.{mark_by}
use Rattle.volume_changes.proofs.space.marks_by.Given as goal

-- the marks of the tracks so far
abbrev pub invariant-loop-track : goal.invariant-loop-track
invariant-loop-track l = record {
  marks : l.marks.items ≡ of_each (λ n. mark_by l.geometry l.kept l.pieces l.alternates.0 l.alternates.1 n ∷ []) l.track;
  all : length l.marks.items ≡ l.track;
}
