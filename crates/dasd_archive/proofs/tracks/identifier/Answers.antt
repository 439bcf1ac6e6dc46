use Rattle.std.proofs.Common.{◌≡◌, ◌∙◌, take}
use Rattle.dasd_volumes.proofs.Formats.{identifier_is}
use Rattle.ckd_track.specs.Track.{record_in}
use Rattle.dasd_archive.proofs.tracks.identifier.Goals as goal

pub returns-clause-value : goal.returns-clause-value
returns-clause-value c =
    let is : take 5 c.count_of.result.now ≡ (record_in c.args.view.now c.args.i).id =
    identifier_is _ _ c.count_of.ensures.bytes c.count_of.ensures.is_record in
    c.five.ensures ∙ is

pub returns-clause-five : goal.returns-clause-five
returns-clause-five c = c.count_of.ensures.is_record.id
