use Rattle.std.proofs.Common.{◌∙◌, sym}
use Rattle.library_contents.proofs.Numbers.{past_blocks, are_these, are_others, is_number}
use Rattle.library_contents.proofs.notes.block_number.Goals as goal

pub returns-then-eq : goal.returns-then-eq
returns-then-eq c = is_number _ _ _ (sym c.is_empty.ensures ∙ c.if-is_empty.false)
    (c.loop-number.invariant ∙ are_these _ _ _ _ c.loop-number-test.true (sym c.eq.ensures ∙ c.if-eq.true))

pub loop-number-preserved : goal.loop-number-preserved
loop-number-preserved c = rw (c.behind_block-rest.ensures)
    (c.loop-number.invariant ∙ are_others _ _ _ _ c.loop-number-test.true (sym c.eq.ensures ∙ c.if-eq.false))

pub returns : goal.returns
returns c =
    is_number _ _ _ (sym c.is_empty.ensures ∙ c.if-is_empty.false) (c.loop-number.invariant ∙ past_blocks _ _ _ _ c.loop-number-test.false)
