use Rattle.std.proofs.Common.{◌≡◌, ◌∙◌, ap, ℕ, ◌++◌, List, [], arith}
use Rattle.ckd_track.specs.Geometry.{tracks_of}
use Rattle.ckd_image.specs.Header.{new_header}
use Rattle.changed_volumes.proofs.Slots.{slots, first_written, file_size, size_more, one_more}
use Rattle.changed_volumes.proofs.labelled_writes.write_labelled.Goals as goal

pub loop-track-init : goal.loop-track-init
loop-track-init g c = record {
  written = first_written _ _ _ c.requires.empty c.in_ok-write_at.ensures.written
      ∙ ap (λ (s : List ℕ). s ++ []) c.header_of.ensures;
  size = omega arith;
}

pub write_slot-requires-clause-begins : goal.write_slot-requires-clause-begins
write_slot-requires-clause-begins g c =
    file_size c.args.geometry c.args.label.now _ c.loop-track.track c.loop-track.invariant.written c.loop-track.invariant.size

pub loop-track-preserved : goal.loop-track-preserved
loop-track-preserved g c =
    let label = c.args.label.now in
    let n = c.loop-track.track in
    let size = c.loop-track.invariant.size in
    record {
      written = one_more c.args.geometry label _ _ n c.loop-track.invariant.written size c.in_ok-write_slot.ensures.written;
      size = size_more c.args.geometry label n size c.write_slot.ensures.whole;
    }

pub returns : goal.returns
returns g c =
    let last = c.loop-track.auto.track-end in
    let end = c.tracks-track-end.ensures in
    let done = c.loop-track-test.false in
    let all : c.loop-track.track ≡ tracks_of c.args.geometry = omega arith in
    c.loop-track.invariant.written ∙ ap (λ (n : ℕ). new_header c.args.geometry.model ++ slots c.args.geometry c.args.label.now n) all
