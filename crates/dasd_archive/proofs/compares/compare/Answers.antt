use Rattle.std.proofs.Common.{◌∙◌, ◌<◌, ◌++◌, rules, tests, refl, subst, ap}
use Rattle.counted_io.specs.Streams.{seen_by, Takes, TakesFront}
use Rattle.counted_io.proofs.Written.{takes_more}
use Rattle.dasd_volumes.proofs.Fronts.{front_behind}
use Rattle.dasd_archive.specs.Compare.{comparison_form, lines_beside, number_line, volume_differences}
use Rattle.dasd_volumes.specs.Volumes.{all_tracks}
use Rattle.dasd_archive.proofs.Counted.{all_counted, text_beside}
use Rattle.dasd_volumes.proofs.Printing.{front_before}
use Rattle.dasd_archive.proofs.compares.compare.Goals as goal

-- a track was not compared to its end
pub returns-in-Err-clause-lines : goal.returns-in-Err-clause-lines
returns-in-Err-clause-lines g c = λ slots other_slots known other_known.
    let v = g.V.SlotReader.volume c.args.one.now in
    let a = seen_by g.W.Write.contents c.args.writer.now in
    let b = seen_by g.W.Write.contents c.each_track.new.writer in
    let f = comparison_form c.args.form in
    let whole = c.all_tracks.ensures.tracks ∙ ap all_tracks c.geometry-geometry.ensures.geometry in
    front_before a b _ _
    (text_beside (TakesFront a b) (lines_beside f) _ v.geometry slots other_slots _ whole other_known
    (c.in-Err.ensures.text (other_slots, other_known) slots known))

-- all were
pub returns-in-Ok-clause-number : goal.returns-in-Ok-clause-number
returns-in-Ok-clause-number g c = λ slots other_slots known other_known.
    let v = g.V.SlotReader.volume c.args.one.now in
    let whole = c.all_tracks.ensures.tracks ∙ ap all_tracks c.geometry-geometry.ensures.geometry in
    let fits : v.geometry.cylinders < 65536 = search (rules, tests) in
    all_counted _ _ _ _ _ v.geometry slots other_slots (record {
      counted = c.in_default-each_track.ensures.noted slots known;
      all = whole;
      fits = fits;
      none_yet = refl;
      known = other_known;
    })

pub returns-in-Ok-clause-lines : goal.returns-in-Ok-clause-lines
returns-in-Ok-clause-lines g c = λ slots other_slots known other_known.
    let v = g.V.SlotReader.volume c.args.one.now in
    let a = seen_by g.W.Write.contents c.args.writer.now in
    let b = seen_by g.W.Write.contents c.each_track.new.writer in
    let d = seen_by g.W.Write.contents c.print_number.new.writer in
    let f = comparison_form c.args.form in
    let whole = c.all_tracks.ensures.tracks ∙ ap all_tracks c.geometry-geometry.ensures.geometry in
    let fits : v.geometry.cylinders < 65536 = search (rules, tests) in
    let is = all_counted _ _ _ _ _ v.geometry slots other_slots (record {
      counted = c.in_default-each_track.ensures.noted slots known;
      all = whole;
      fits = fits;
      none_yet = refl;
      known = other_known;
    }) in
    subst (λ n. Takes a d (volume_differences f v.geometry slots other_slots
    ++ number_line f n)) is
    (takes_more a b d _ _
    (text_beside (Takes a b) (lines_beside f) _ v.geometry slots other_slots _ whole other_known
    (c.in_default-each_track.ensures.text (other_slots, other_known) slots known))
    c.in-Ok.ensures.lines)

-- the last line was not printed to its end
pub returns-clause-lines : goal.returns-clause-lines
returns-clause-lines g c = λ slots other_slots known other_known.
    let v = g.V.SlotReader.volume c.args.one.now in
    let a = seen_by g.W.Write.contents c.args.writer.now in
    let b = seen_by g.W.Write.contents c.each_track.new.writer in
    let d = seen_by g.W.Write.contents c.print_number.new.writer in
    let f = comparison_form c.args.form in
    let whole = c.all_tracks.ensures.tracks ∙ ap all_tracks c.geometry-geometry.ensures.geometry in
    let fits : v.geometry.cylinders < 65536 = search (rules, tests) in
    let is = all_counted _ _ _ _ _ v.geometry slots other_slots (record {
      counted = c.in_default-each_track.ensures.noted slots known;
      all = whole;
      fits = fits;
      none_yet = refl;
      known = other_known;
    }) in
    subst (λ n. TakesFront a d (volume_differences f v.geometry slots other_slots
    ++ number_line f n)) is
    (front_behind a b d _ _
    (text_beside (Takes a b) (lines_beside f) _ v.geometry slots other_slots _ whole other_known
    (c.in_default-each_track.ensures.text (other_slots, other_known) slots known))
    c.in-Err-print_number.ensures.lines)
