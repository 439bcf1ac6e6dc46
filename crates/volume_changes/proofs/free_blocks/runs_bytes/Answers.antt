use Rattle.std.proofs.Common.{◌∙◌, ap, sym, refl, ℕ, ◌*◌, List, ◌++◌, replicate}
use Rattle.ckd_track.specs.Changes.{overwritten}
use Rattle.dasd_volumes.proofs.Appended.{of_none}
use Rattle.new_labels.specs.FreeSpace.{run_bytes}
use Rattle.volume_changes.specs.FreeBlocks.{run_in}
use Rattle.volume_changes.proofs.Written.{one_more_written}
use Rattle.volume_changes.proofs.free_blocks.runs_bytes.Goals as goal

pub loop-i-init : goal.loop-i-init
loop-i-init c = ap (λ (l : List ℕ). l ++ replicate 130 0) (sym (of_none _))

pub loop-i-preserved : goal.loop-i-preserved
loop-i-preserved c =
    let i = c.loop-i.i in
    let of : ℕ → List ℕ = λ k. run_bytes (run_in c.args.runs.now k) in
    c.put_run.ensures ∙ ap (λ run. overwritten c.loop-i.bytes (i * 5) (run_bytes run)) c.run_in.ensures
    ∙ ap (λ (bytes : List ℕ). overwritten bytes (i * 5) (of i)) c.loop-i.invariant ∙ one_more_written of (λ k. refl) i
