use Rattle.std.proofs.Common.{◌≡◌, ◌*◌, ◌++◌, length}
use Rattle.ckd_image.specs.Header.{new_header}
use Rattle.changed_volumes.proofs.Slots.{slots}
use Rattle.changed_volumes.proofs.labelled_writes.write_labelled.Given as goal

abbrev pub invariant-loop-track : goal.invariant-loop-track
invariant-loop-track g l = record {
  written : g.D.ImageStore.content l.draft ≡ new_header l.geometry.model ++ slots l.geometry l.label l.track;
  size : length (slots l.geometry l.label l.track) ≡ l.track * l.geometry.track_size;
}
