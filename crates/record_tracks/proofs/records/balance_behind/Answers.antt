use Rattle.std.proofs.Common.{◌∙◌, arith}
use Rattle.record_tracks.proofs.Listed.{one_less}
use Rattle.record_tracks.proofs.records.balance_behind.Goals as goal

pub loop-block-preserved : goal.loop-block-preserved
loop-block-preserved c =
    let less = one_less c.args.model c.args.records.now c.loop-block.block-index c.loop-block.left c.charge_for.result _
    c.loop-block-test.true c.loop-block.invariant.left c.charge_for.ensures in
    record { few = omega arith; left = c.saturating_sub-left.ensures ∙ less }
