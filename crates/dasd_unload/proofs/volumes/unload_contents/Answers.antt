use Rattle.std.proofs.Common.{refl}
use Rattle.std.specs.Option.{option_copied}
use Rattle.dasd_unload.specs.Volumes.{plan}
use Rattle.dasd_unload.proofs.Steps.{gave_up}
use Rattle.dasd_unload.proofs.Unloaded.{contents_done, contents_stopped}
use Rattle.dasd_unload.proofs.volumes.unload_contents.Goals as goal

pub returns-in-Err-clause-does : goal.returns-in-Err-clause-does
returns-in-Err-clause-does g c = gave_up _ _ _ _ _ _ _ _ _ refl

-- that something is wrong with the table was not told
pub returns-in-Err-contents-clause-does : goal.returns-in-Err-contents-clause-does
returns-in-Err-contents-clause-does g c =
    let t = c.args.target in
    contents_stopped (g.V.SlotReader.volume c.args.volume.now) (plan t.folder.now t.block_form (option_copied t.json)) c.in-Ok.contents
    c.in-Ok.ensures.contents _ _ _ _ _ _
    (rw c.as_slice-findings.ensures.value at c.in-Err-contents.ensures.text)

pub returns-clause-does : goal.returns-clause-does
returns-clause-does g c =
    let t = c.args.target in
    contents_done (g.V.SlotReader.volume c.args.volume.now) (plan t.folder.now t.block_form (option_copied t.json)) c.in-Ok.contents
    c.in-Ok.ensures.contents _ _ _ _ _
    c.unload_table.result _ _ (rw c.as_slice-findings.ensures.value at c.in_default.ensures.text)
    (rw c.as_slice-findings.ensures.value at c.in_default.ensures.counted)
    (rw (c.in-Ok.ensures.volume.0, c.as_slice-blocks.ensures.value) at c.unload_table.ensures.does)
