use Rattle.std.proofs.Common.{◌∙◌, ◌++◌, subst, ap}
use Rattle.counted_io.specs.Streams.{seen_by, Takes, TakesFront}
use Rattle.counted_io.proofs.Written.{takes_more}
use Rattle.dasd_volumes.proofs.Fronts.{front_behind}
use Rattle.dasd_archive.specs.Reports.{finding_lines, tally_line}
use Rattle.dasd_archive.specs.Strict.{strict_findings}
use Rattle.dasd_volumes.specs.Volumes.{all_tracks}
use Rattle.dasd_volumes.proofs.Printing.{front_before}
use Rattle.dasd_archive.proofs.Reported.{strict_counts, strict_lines}
use Rattle.dasd_archive.proofs.strict.check_strict.Goals as goal

-- a track was not checked to its end
pub returns-in-Err-clause-lines : goal.returns-in-Err-clause-lines
returns-in-Err-clause-lines g c = λ earlier is slots known.
    let v = g.V.SlotReader.volume c.args.volume.now in
    let a = seen_by g.W.Write.contents c.args.writer.now in
    let b = seen_by g.W.Write.contents c.each_track.new.writer in
    let whole = c.all_tracks.ensures.tracks ∙ ap all_tracks c.geometry-geometry.ensures.geometry in
    front_before a b _ _
    (strict_lines (TakesFront a b) c.args.form.style c.args.form.path.now _ v.geometry slots whole (c.in-Err.ensures.text tt slots known))

-- all were
pub returns-in-Ok-clause-counts : goal.returns-in-Ok-clause-counts
returns-in-Ok-clause-counts g c = λ earlier is slots known.
    let v = g.V.SlotReader.volume c.args.volume.now in
    let whole = c.all_tracks.ensures.tracks ∙ ap all_tracks c.geometry-geometry.ensures.geometry in
    strict_counts _ _ _ _ v.geometry slots whole (c.in_default-each_track.ensures.noted slots known) earlier is

pub returns-in-Ok-clause-lines : goal.returns-in-Ok-clause-lines
returns-in-Ok-clause-lines g c = λ earlier is slots known.
    let v = g.V.SlotReader.volume c.args.volume.now in
    let a = seen_by g.W.Write.contents c.args.writer.now in
    let b = seen_by g.W.Write.contents c.each_track.new.writer in
    let d = seen_by g.W.Write.contents c.print_tally.new.writer in
    let f = c.args.form in
    let whole = c.all_tracks.ensures.tracks ∙ ap all_tracks c.geometry-geometry.ensures.geometry in
    subst (λ t. Takes a d (finding_lines f.style f.path.now (strict_findings v.geometry slots) ++ tally_line f.style.style f.path.now t))
    (strict_counts _ _ _ _ v.geometry slots whole (c.in_default-each_track.ensures.noted slots known) earlier is)
    (takes_more a b d _ _
    (strict_lines (Takes a b) f.style f.path.now _ v.geometry slots whole (c.in_default-each_track.ensures.text tt slots known))
    c.in-Ok.ensures.lines)

-- the last line was not printed
pub returns-clause-lines : goal.returns-clause-lines
returns-clause-lines g c = λ earlier is slots known.
    let v = g.V.SlotReader.volume c.args.volume.now in
    let a = seen_by g.W.Write.contents c.args.writer.now in
    let b = seen_by g.W.Write.contents c.each_track.new.writer in
    let d = seen_by g.W.Write.contents c.print_tally.new.writer in
    let f = c.args.form in
    let whole = c.all_tracks.ensures.tracks ∙ ap all_tracks c.geometry-geometry.ensures.geometry in
    subst (λ t. TakesFront a d (finding_lines f.style f.path.now (strict_findings v.geometry slots)
    ++ tally_line f.style.style f.path.now t))
    (strict_counts _ _ _ _ v.geometry slots whole (c.in_default-each_track.ensures.noted slots known) earlier is)
    (front_behind a b d _ _
    (strict_lines (Takes a b) f.style f.path.now _ v.geometry slots whole (c.in_default-each_track.ensures.text tt slots known))
    c.in-Err-print_tally.ensures.lines)
