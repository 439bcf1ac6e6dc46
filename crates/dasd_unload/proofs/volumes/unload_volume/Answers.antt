use Rattle.std.proofs.Common.{◌∙◌}
use Rattle.dasd_unload.specs.Volumes.{plan_of}
use Rattle.dasd_unload.proofs.Unloaded.{volume_ended, volume_stopped}
use Rattle.dasd_unload.proofs.volumes.unload_volume.Goals as goal

-- all was unloaded, and the last line was printed, or its first bytes
pub returns-in-Ok-unloaded-clause-volume : goal.returns-in-Ok-unloaded-clause-volume
returns-in-Ok-unloaded-clause-volume g c =
    let w = c.args.volume in
    let opens = c.in-Ok.ensures.opens in
    let same = c.settle.ensures.same ∙ c.unload_contents-unloaded.ensures.same ∙ opens.opened in
    volume_ended w.as_far _ (plan_of w.folder.now w.block_form w.json w.path.now) _ _ c.in-Ok.opened _ _ _
    (record { opened = same; count = opens.count }) c.in-Ok.ensures.mounts c.end.result _
    (rw (c.path_if.ensures, c.open_volume.ensures.kept, c.new-report.ensures, ← c.settle.ensures.kept) at c.in-Ok-unloaded.ensures.does)
    (rw c.path_if.ensures at c.end.ensures.text) c.end.ensures.findings

-- a fault stopped it
pub returns-clause-volume : goal.returns-clause-volume
returns-clause-volume g c =
    let w = c.args.volume in
    let opens = c.in-Ok.ensures.opens in
    let same = c.settle.ensures.same ∙ c.unload_contents-unloaded.ensures.same ∙ opens.opened in
    volume_stopped w.as_far _ (plan_of w.folder.now w.block_form w.json w.path.now) _ _ c.in-Ok.opened _ _ _
    (record { opened = same; count = opens.count }) c.in-Ok.ensures.mounts c.in-Err-unloaded.fault
    (rw (c.path_if.ensures, c.open_volume.ensures.kept, c.new-report.ensures, ← c.settle.ensures.kept) at c.in-Err-unloaded.ensures.does)
