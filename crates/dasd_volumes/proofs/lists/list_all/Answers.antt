use Rattle.std.proofs.Common.{◌∙◌, subst, ap}
use Rattle.counted_io.specs.Streams.{seen_by, Takes, TakesFront}
use Rattle.dasd_volumes.specs.declared.walks.Range.{Range}
use Rattle.dasd_volumes.specs.Listing.{volume_part, listed_text, cylinders_part}
use Rattle.dasd_volumes.specs.Volumes.{text_in, all_heads}
use Rattle.dasd_volumes.proofs.Printing.{text_behind, front_before, prints_same}
use Rattle.dasd_volumes.proofs.lists.list_all.Goals as goal

pub returns-in-Ok-clause-lines : goal.returns-in-Ok-clause-lines
returns-in-Ok-clause-lines g c =
    let v = g.V.SlotReader.volume c.args.volume.now in
    let l = c.args.listing in
    let part = volume_part l.form.style l.form.path.now in
    let before = seen_by g.W.Write.contents c.args.writer.now in
    let between = seen_by g.W.Write.contents c.list_volume.new.writer in
    let after = seen_by g.W.Write.contents c.each_track.new.writer in
    let text = listed_text l.form.style l.form.path.now l.used_only in
    let heads = c.all_heads.ensures.range ∙ ap all_heads c.geometry-geometry.ensures.geometry in
    text_behind c.each_track.result before between after part (cylinders_part l.form.style l.form.path.now l.used_only l.cylinders) v
    (subst (λ geometry. Takes before between (part geometry)) c.geometry-geometry.ensures.geometry c.in-Ok.ensures.0)
    (prints_same c.each_track.result _ _ v between after
    (λ slots. ap (λ (h : Range). text_in text (record { cylinders = l.cylinders; heads = h }) v.geometry slots) heads)
    (c.each_track.ensures.text tt))

-- the line of the volume was not printed to its end
pub returns-in-Err-clause-lines : goal.returns-in-Err-clause-lines
returns-in-Err-clause-lines g c = λ slots known.
    let l = c.args.listing in
    let part = volume_part l.form.style l.form.path.now in
    let before = seen_by g.W.Write.contents c.args.writer.now in
    let between = seen_by g.W.Write.contents c.list_volume.new.writer in
    front_before before between _ _ (subst (λ geometry. TakesFront before between (part geometry)) c.geometry-geometry.ensures.geometry
    c.in-Err.ensures.0)
