use Rattle.std.specs.Option.{option_copied}
use Rattle.dasd_unload.specs.Volumes.{plan}
use Rattle.dasd_unload.proofs.Folder.{adds_both}
use Rattle.dasd_unload.proofs.Unloaded.{table_done, table_stopped}
use Rattle.dasd_unload.proofs.volumes.unload_table.Goals as goal

-- a data set was not unloaded
pub returns-in-Err-clause-does : goal.returns-in-Err-clause-does
returns-in-Err-clause-does g c =
    let t = c.args.table.target in
    table_stopped c.in-Err.fault (g.V.SlotReader.volume c.args.volume.now) (plan t.folder.now t.block_form (option_copied t.json))
    c.args.table.blocks.now _ _ _ _ c.in-Err.ensures.does

pub returns-clause-does : goal.returns-clause-does
returns-clause-does g c =
    let t = c.args.table.target in
    table_done c.unload_text.result (g.V.SlotReader.volume c.args.volume.now) (plan t.folder.now t.block_form (option_copied t.json))
    c.args.table.blocks.now _ _ _ _ _ _ c.in_default.ensures.does (rw c.unload_sets.ensures.kept at c.unload_text.ensures.does)

pub returns-clause-files : goal.returns-clause-files
returns-clause-files g c = adds_both _ _ _ _ c.unload_sets.ensures.files c.unload_text.ensures.files
