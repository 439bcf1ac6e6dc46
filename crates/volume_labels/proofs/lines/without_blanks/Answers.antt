use Rattle.std.proofs.Common.{◌∙◌, sym, arith}
use Rattle.volume_labels.proofs.Blanks.{row_of_blanks}
use Rattle.volume_labels.proofs.lines.without_blanks.Goals as goal

-- eight blanks are passed
pub loop-kept-preserved : goal.loop-kept-preserved
loop-kept-preserved c =
    let row = row_of_blanks c.args.bytes.now 8 c.loop-kept.kept c.loop-kept-test.true c.loop-kept.invariant.0
    (sym c.are_blank.ensures ∙ c.if-are_blank.true) in
    (omega (arith, c.loop-kept.invariant.0), omega (arith, c.loop-kept-test.true, c.loop-kept.invariant.1, row))
