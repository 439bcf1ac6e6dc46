use Rattle.std.proofs.Common.{rules, tests, []}
use Rattle.dasd_volumes.proofs.Appended.{one_more_text, all_texts}
use Rattle.dasd_contents.specs.Lines.{finding_line}
use Rattle.dasd_contents.proofs.lines.write_findings.Goals as goal

pub loop-finding-preserved : goal.loop-finding-preserved
loop-finding-preserved g c =
    one_more_text _ _ _ finding_line [] c.args.findings.now c.loop-finding.finding-index _ (search (rules, tests)) c.loop-finding.invariant
    c.in_ok-write_finding.ensures

pub returns : goal.returns
returns g c = all_texts _ _ finding_line [] c.args.findings.now c.loop-finding.finding-index
    (search (rules, tests)) c.loop-finding.invariant
