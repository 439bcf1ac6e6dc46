use Rattle.std.proofs.Common.{OnOk, subst}
use Rattle.dasd_archive.specs.Reports.{Reports}
use Rattle.dasd_archive.specs.Strict.{header_findings}
use Rattle.dasd_archive.proofs.tracks.check_header.Goals as goal

pub returns-in-Some : goal.returns-in-Some
returns-in-Some g c =
    subst (λ o. OnOk c.report.result (Reports c.args.form.style c.args.form.path.now (g.W.Write.contents c.args.writer.now)
    (g.W.Write.contents c.report.new.writer)
    c.args.tally.now c.report.new.tally (header_findings c.args.file o))) (rw c.bytes_from.ensures at c.in-Some.ensures) c.report.ensures
