use Rattle.std.proofs.Common.{rules, tests}
use Rattle.volume_contents.proofs.Added.{adds_none, adds_more}
use Rattle.volume_contents.proofs.blocks.read_records.Goals as goal

pub loop-i-init : goal.loop-i-init
loop-i-init c = adds_none _ _ _

pub loop-i-preserved : goal.loop-i-preserved
loop-i-preserved c = adds_more _ _ _ _ _ c.loop-i.i c.loop-i.invariant c.in_ok-read_record.ensures

pub returns : goal.returns
returns c = let are = c.loop-i.invariant in search (rules, tests, are)
