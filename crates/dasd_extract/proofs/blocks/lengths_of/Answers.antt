use Rattle.std.proofs.Common.{◌≡◌, ◌∙◌, ap, ℕ, ◌-◌, List, ◌++◌, length, take, drop, length-drop, arith}
use Rattle.std.proofs.lemmas.List.{take_all, drop_at}
use Rattle.ckd_track.specs.Track.{record_in}
use Rattle.dasd_extract.specs.Blocks.{lengths}
use Rattle.dasd_extract.proofs.blocks.lengths_of.Goals as goal

-- what stands behind five bytes
behind_five : (x a b : List ℕ) → length a ≡ 5 → x ≡ a ++ b → take (length x - 5) (drop 5 x) ≡ b
behind_five x a b five is = take_all (length x - 5) (drop 5 x) (omega (arith, length-drop 5 x)) ∙ ap (drop 5) is ∙ drop_at a b 5 five

pub returns : goal.returns
returns c =
    let r = record_in c.args.view.now c.args.i in
    behind_five c.count_of.result.now r.id (lengths r) c.count_of.ensures.is_record.id c.count_of.ensures.bytes
