use Rattle.dasd_unload.proofs.Told.{then_told}
use Rattle.dasd_unload.proofs.report.Report.unloaded.Goals as goal

pub returns-clause-text : goal.returns-clause-text
returns-clause-text g c = then_told c.written.result _ _ _ _ _ c.in_default.ensures.text c.written.ensures.text
