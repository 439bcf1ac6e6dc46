use Rattle.std.proofs.Common.{◌≡◌, ◌∙◌, ap, ℕ, List, length, drop, arith, length-drop}
use Rattle.std.proofs.lemmas.List.{take_all}
use Rattle.ckd_track.specs.Changes.{overwritten}
use Rattle.volume_changes.proofs.Written.{data_written}
use Rattle.volume_changes.proofs.free_blocks.free_space_data.Goals as goal

pub returns : goal.returns
returns c =
    let behind = drop 40 c.args.runs.now in
    let long : length behind ≡ 90 = length-drop 40 c.args.runs.now ∙ omega (arith, c.told-runs) in
    c.overwrite-2.ensures ∙ ap (λ (b : List ℕ). overwritten c.overwrite.new.slot 1 b) (take_all 90 behind (omega (arith, long)))
    ∙ ap (λ (b : List ℕ). overwritten b 1 behind) c.overwrite.ensures ∙ data_written behind c.args.next long (omega arith)
