use Rattle.std.proofs.Common.{rules, tests, []}
use Rattle.dasd_volumes.proofs.Appended.{one_more_text, all_texts}
use Rattle.volume_details.specs.Long.{extent_line}
use Rattle.volume_details.proofs.long.write_extents.Goals as goal

pub loop-extent-preserved : goal.loop-extent-preserved
loop-extent-preserved g c =
    one_more_text _ _ _ extent_line [] c.args.extents.now c.loop-extent.extent-index _ (search (rules, tests)) c.loop-extent.invariant
    c.in_ok-write_extent.ensures

pub returns : goal.returns
returns g c = all_texts _ _ extent_line [] c.args.extents.now c.loop-extent.extent-index
    (search (rules, tests)) c.loop-extent.invariant
