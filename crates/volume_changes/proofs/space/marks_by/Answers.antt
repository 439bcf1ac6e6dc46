use Rattle.std.proofs.Common.{◌∙◌, ap, sym, ℕ, List, ◌∷◌, [], ◌++◌, length, length-append, arith}
use Rattle.dasd_volumes.specs.Volumes.{of_each}
use Rattle.dasd_volumes.proofs.Appended.{of_one_more}
use Rattle.volume_changes.specs.Space.{mark_by}
use Rattle.volume_changes.proofs.space.marks_by.Goals as goal

pub loop-track-preserved : goal.loop-track-preserved
loop-track-preserved c =
    let of : ℕ → List ℕ = λ n. mark_by c.args.geometry c.args.kept c.args.pieces.now c.args.alternates.0 c.args.alternates.1 n ∷ [] in
    let track = c.loop-track.track in
    record {
      marks = c.in_ok-push.ensures ∙ ap (λ (l : List ℕ). l ++ c.mark_by-mark.result ∷ []) c.loop-track.invariant.marks
          ∙ ap (λ (mark : ℕ). of_each of track ++ mark ∷ []) c.mark_by-mark.ensures ∙ sym (of_one_more of track);
      all = ap length c.in_ok-push.ensures ∙ length-append c.loop-track.marks.items (c.mark_by-mark.result ∷ [])
          ∙ omega (arith, c.loop-track.invariant.all);
    }
