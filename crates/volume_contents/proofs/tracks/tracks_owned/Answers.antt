use Rattle.std.proofs.Common.{rules, tests}
use Rattle.volume_contents.specs.Tracks.{tracks_in}
use Rattle.volume_contents.proofs.Sums.{more_sum, whole_sum}
use Rattle.volume_contents.proofs.tracks.tracks_owned.Goals as goal

pub loop-extent-preserved : goal.loop-extent-preserved
loop-extent-preserved c = rw (c.saturating_add-tracks.ensures, c.tracks_in.ensures)
    (more_sum (tracks_in c.args.geometry) c.args.extents.now c.loop-extent.extent-index _ _ _ c.loop-extent-test.true
    c.loop-extent.invariant)

pub returns : goal.returns
returns c = whole_sum (tracks_in c.args.geometry) c.args.extents.now c.loop-extent.extent-index _ _
    (search (rules, tests)) c.loop-extent.invariant
