use Rattle.std.proofs.Common.{rules, tests, []}
use Rattle.std.specs.Option.{option_copied}
use Rattle.dasd_volumes.proofs.Appended.{one_more_text, all_texts}
use Rattle.volume_findings.specs.Texts.{data_text}
use Rattle.volume_findings.proofs.lines.write_findings.Goals as goal

pub loop-finding-preserved : goal.loop-finding-preserved
loop-finding-preserved g c =
    one_more_text _ _ _ (data_text (option_copied c.args.json)) [] c.args.findings.now c.loop-finding.finding-index _ (search
    (rules, tests))
    c.loop-finding.invariant c.in_ok-write_finding.ensures

pub returns : goal.returns
returns g c = all_texts _ _ (data_text (option_copied c.args.json)) [] c.args.findings.now c.loop-finding.finding-index
    (search (rules, tests)) c.loop-finding.invariant
