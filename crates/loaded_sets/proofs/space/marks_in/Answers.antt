use Rattle.std.proofs.Common.{◌∙◌, ap, ℕ, List, ◌∷◌, [], length, length-append, arith}
use Rattle.dasd_volumes.proofs.Appended.{of_one_more}
use Rattle.loaded_sets.specs.Space.{mark_in}
use Rattle.loaded_sets.proofs.space.marks_in.Goals as goal

pub loop-track-preserved : goal.loop-track-preserved
loop-track-preserved c =
    let slots = c.args.image.now.slots in
    let of : ℕ → List ℕ = λ n. mark_in c.args.marks.now slots n ∷ [] in
    let track = c.loop-track.track in
    let was = c.loop-track.invariant in
    let now = c.in_ok-mark.ensures in
    let more = c.in_ok-push.ensures.marks in record {
      same = record { geometry = now.same.geometry ∙ was.same.geometry; lasting = now.same.lasting ∙ was.same.lasting };
      kept = now.kept ∙ was.kept;
      size = now.size ∙ was.size;
      marks = cc (of_one_more of track);
      all = ap length more ∙ length-append c.loop-track.all.items (c.in_ok-mark.mark ∷ []) ∙ omega arith;
    }
