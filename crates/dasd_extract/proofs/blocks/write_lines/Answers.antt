use Rattle.std.proofs.Common.{◌++◌, Some, None, Ok, Err}
use Rattle.std.proofs.KnownBytes.{Appends-trans}
use Rattle.dasd_extract.specs.Blocks.{piece_text}
use Rattle.dasd_extract.proofs.Lines.{this_step, last_step, no_more, and_more}
use Rattle.dasd_extract.proofs.blocks.write_lines.Goals as goal

pub returns-in-Ok-None : goal.returns-in-Ok-None
returns-in-Ok-None g c =
    let is = this_step _ _ _ _ _ _ (Ok None) (rw (c.in-Ok-None.field-0-is) at c.in-Ok-None.ensures.value) c.loop-test.true in
    no_more _ _ _ c.loop.invariant.whole _ _ None is c.loop.invariant.written

pub returns-in-Err : goal.returns-in-Err
returns-in-Err g c =
    rw c.stop_at.ensures (
    let is = this_step _ _ _ _ _ _ (Err c.in-Err.fault) c.in-Err.ensures.value c.loop-test.true in
    no_more _ _ _ c.loop.invariant.whole _ _ _ is c.loop.invariant.written)

pub loop-preserved : goal.loop-preserved
loop-preserved g c =
    let is = this_step _ _ _ _ _ _ (Ok (Some c.in-Ok-Some.piece)) (rw (c.in-Ok-Some.field-0-is) at c.in-Ok-Some.ensures.value)
    c.loop-test.true in record {
      before = c.loop.invariant.before ++ piece_text c.args.block.now c.in-Ok-Some.piece;
      written = Appends-trans _ _ _ _ _ c.loop.invariant.written c.in_ok-write_piece-in-Ok-Some.ensures;
      whole = and_more _ _ _ c.loop.invariant.whole _ _ is;
      within = (rw (c.in-Ok-Some.field-0-is) at c.in-Ok-Some.ensures.within).2;
    }

pub returns : goal.returns
returns g c = no_more _ _ _ c.loop.invariant.whole _ _ None (last_step _ _ _ _ _ _ c.loop-test.false) c.loop.invariant.written
