use Rattle.std.proofs.Common.{◌∙◌, ◌<◌, rules, tests, refl, ap}
use Rattle.counted_io.specs.Streams.{seen_by, Takes, TakesFront}
use Rattle.dasd_volumes.specs.Checks.{finding_line, findings_in_track}
use Rattle.dasd_volumes.specs.Volumes.{all_tracks}
use Rattle.dasd_volumes.proofs.Counting.{all_found}
use Rattle.dasd_volumes.proofs.Walked.{lines_of_found}
use Rattle.dasd_volumes.proofs.checks.check_tracks.Goals as goal

-- all tracks were checked
pub returns-in-Ok-clause-number : goal.returns-in-Ok-clause-number
returns-in-Ok-clause-number g c = λ slots known.
    let v = g.V.SlotReader.volume c.args.volume.now in
    let whole = c.all_tracks.ensures.tracks ∙ ap all_tracks c.geometry-geometry.ensures.geometry in
    let fits : v.geometry.cylinders < 65536 = search (rules, tests) in
    all_found _ _ _ _ v.geometry slots fits refl whole (c.in-Ok.ensures.noted slots known)

pub returns-in-Ok-clause-lines : goal.returns-in-Ok-clause-lines
returns-in-Ok-clause-lines g c = λ slots known.
    let v = g.V.SlotReader.volume c.args.volume.now in
    let a = seen_by g.W.Write.contents c.args.writer.now in
    let b = seen_by g.W.Write.contents c.each_track.new.writer in
    let whole = c.all_tracks.ensures.tracks ∙ ap all_tracks c.geometry-geometry.ensures.geometry in
    lines_of_found (Takes a b) finding_line findings_in_track _ v.geometry slots whole (c.in-Ok.ensures.text tt slots known)

-- a track was not checked to its end
pub returns-in-Err-clause-lines : goal.returns-in-Err-clause-lines
returns-in-Err-clause-lines g c = λ slots known.
    let v = g.V.SlotReader.volume c.args.volume.now in
    let a = seen_by g.W.Write.contents c.args.writer.now in
    let b = seen_by g.W.Write.contents c.each_track.new.writer in
    let whole = c.all_tracks.ensures.tracks ∙ ap all_tracks c.geometry-geometry.ensures.geometry in
    lines_of_found (TakesFront a b) finding_line findings_in_track _ v.geometry slots whole (c.in-Err.ensures.text tt slots known)
