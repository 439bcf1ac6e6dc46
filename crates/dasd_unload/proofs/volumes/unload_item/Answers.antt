use Rattle.std.proofs.Common.{◌∙◌, refl}
use Rattle.std.specs.Option.{option_copied}
use Rattle.dasd_extract.specs.Walk.{wanted}
use Rattle.dasd_unload.specs.Volumes.{plan}
use Rattle.dasd_unload.proofs.Steps.{gave_up}
use Rattle.dasd_unload.proofs.Unloaded.{came, kept_out}
use Rattle.dasd_unload.proofs.volumes.unload_item.Goals as goal

pub returns-in-Err-clause-does : goal.returns-in-Err-clause-does
returns-in-Err-clause-does g c = gave_up _ _ _ _ _ _ _ _ _ refl

pub returns-in-Ok-unload_to-clause-does : goal.returns-in-Ok-unload_to-clause-does
returns-in-Ok-unload_to-clause-does g c =
    let t = c.args.item.target in
    let s = c.args.item.source in
    came c.unloaded.result (g.V.SlotReader.volume c.args.volume.now) (plan t.folder.now t.block_form (option_copied t.json))
    c.args.item.name.now c.as_str.result.now
    (wanted s.form s.extents.now s.start s.tracks) c.args.item.block.now _ _ c.in-Ok-unload_to.unloaded _ _ _ _
    (c.as_str.ensures.value ∙ c.in-Ok.ensures.path) c.in-Ok-unload_to.ensures.file
    (rw c.end_of-end.ensures at c.unloaded.ensures.text) (rw c.end_of-end.ensures at c.unloaded.ensures.counted)

pub returns-in-Err-Job-Exists-clause-does : goal.returns-in-Err-Job-Exists-clause-does
returns-in-Err-Job-Exists-clause-does g c =
    let t = c.args.item.target in
    let s = c.args.item.source in
    kept_out c.finding.result (g.V.SlotReader.volume c.args.volume.now) (plan t.folder.now t.block_form (option_copied t.json))
    c.args.item.name.now _ _ _ _ _
    (wanted s.form s.extents.now s.start s.tracks) c.args.item.block.now _ c.in-Err-Job-Exists.ensures.file
    c.finding.ensures.text c.finding.ensures.counted

pub returns-clause-does : goal.returns-clause-does
returns-clause-does g c = gave_up _ _ _ _ _ _ _ _ _ c.in-Err-unload_to.ensures.file
