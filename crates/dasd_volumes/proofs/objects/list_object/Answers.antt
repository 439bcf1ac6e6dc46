use Rattle.std.proofs.Common.{◌++◌, codes, length}
use Rattle.dasd_volumes.specs.Volumes.{of_each}
use Rattle.dasd_volumes.specs.Listing.{place_text, listed_record, whole_text}
use Rattle.dasd_volumes.proofs.Printing.{then_whole, stopped_before}
use Rattle.dasd_volumes.proofs.objects.list_object.Goals as goal

pub returns-in-Ok : goal.returns-in-Ok
returns-in-Ok g c =
    then_whole c.list_track.result _ _ _ (place_text c.args.path.now c.args.track.cylinder c.args.track.head) _ c.in-Ok.ensures
    c.list_track.ensures

pub returns-in-Err : goal.returns-in-Err
returns-in-Err g c =
    let view = c.args.view.now in
    let records = of_each (listed_record view) (length view.records) in
    stopped_before _ _ _ (whole_text c.args.track.geometry.model view ++ (records ++ codes "]}\n")) c.in-Err.ensures
