use Rattle.std.proofs.Common.{rules, tests}
use Rattle.dasd_volumes.proofs.Appended.{one_more_text, all_texts}
use Rattle.dasd_archive.specs.Dump.{record_text}
use Rattle.dasd_archive.proofs.dumps.dump_readable.Goals as goal

pub loop-i-preserved : goal.loop-i-preserved
loop-i-preserved g c =
    one_more_text _ _ _ (record_text c.args.lines.now c.args.numbers) _ c.args.track.now.records c.loop-i.i _
    (search (rules, tests)) c.loop-i.invariant c.in_ok-dump_asked.ensures

pub returns : goal.returns
returns g c =
    all_texts _ _ (record_text c.args.lines.now c.args.numbers) _ c.args.track.now.records c.loop-i.i
    (search (rules, tests)) c.loop-i.invariant
