use Rattle.std.specs.Option.{option_copied}
use Rattle.dasd_unload.specs.Told.{directory_texts}
use Rattle.dasd_unload.proofs.Told.{then_findings}
use Rattle.dasd_unload.proofs.report.Report.directory.Goals as goal

pub returns-clause-text : goal.returns-clause-text
returns-clause-text g c =
    then_findings c.ended.result (option_copied c.args.named.json) c.args.named.name.now (directory_texts c.args.members.now.fault) _ _ _
    _ c.in_default.ensures.text c.ended.ensures.text
