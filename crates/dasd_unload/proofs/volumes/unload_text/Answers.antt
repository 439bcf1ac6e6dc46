use Rattle.std.proofs.Common.{◌∙◌, refl}
use Rattle.std.specs.Option.{option_copied}
use Rattle.dasd_unload.specs.Volumes.{plan}
use Rattle.dasd_unload.proofs.Steps.{gave_up}
use Rattle.dasd_unload.proofs.Unloaded.{described_step, description_kept_out}
use Rattle.dasd_unload.proofs.volumes.unload_text.Goals as goal

pub returns-in-Err-clause-does : goal.returns-in-Err-clause-does
returns-in-Err-clause-does g c = gave_up _ _ _ _ _ _ _ _ _ refl

pub returns-in-Err-path_in-clause-does : goal.returns-in-Err-path_in-clause-does
returns-in-Err-path_in-clause-does g c = gave_up _ _ _ _ _ _ _ _ _ refl

pub returns-in-Ok-put_text-clause-does : goal.returns-in-Ok-put_text-clause-does
returns-in-Ok-put_text-clause-does g c =
    let t = c.args.table.target in
    described_step (g.V.SlotReader.volume c.args.volume.now) (plan t.folder.now t.block_form (option_copied t.json)) c.args.table.blocks.now
    c.in-Ok.text.items c.in-Ok.ensures.text c.as_str.result.now _ _ _ _ (c.as_str.ensures.value ∙ c.in-Ok-path_in.ensures.path)
    (rw c.as_slice.ensures.value at c.in-Ok-put_text.ensures.file)

pub returns-in-Err-Job-Exists-clause-does : goal.returns-in-Err-Job-Exists-clause-does
returns-in-Err-Job-Exists-clause-does g c =
    let t = c.args.table.target in
    description_kept_out (g.V.SlotReader.volume c.args.volume.now) (plan t.folder.now t.block_form (option_copied t.json))
    c.args.table.blocks.now c.in-Ok.text.items c.in-Ok.ensures.text c.finding.result _ _ _ _ _ _
    c.in-Err-Job-Exists.ensures.file c.finding.ensures.text c.finding.ensures.counted

pub returns-clause-does : goal.returns-clause-does
returns-clause-does g c = gave_up _ _ _ _ _ _ _ _ _ c.in-Err-put_text.ensures.file
