use Rattle.dasd_volumes.proofs.Appended.{no_lines, more_lines}
use Rattle.dasd_archive.specs.Compare.{difference_line}
use Rattle.dasd_archive.proofs.compared.compare_records.Goals as goal

pub loop-i-init : goal.loop-i-init
loop-i-init g c = no_lines _ _ _

pub loop-i-preserved : goal.loop-i-preserved
loop-i-preserved g c =
    more_lines (difference_line c.args.lines.now) _ _ _ _ c.loop-i.i c.loop-i.invariant c.in_ok-compare_record.ensures
