use Rattle.std.proofs.Common.{refl, arith}
use Rattle.std.specs.Option.{option_copied}
use Rattle.dasd_unload.specs.Volumes.{plan}
use Rattle.dasd_unload.proofs.Steps.{gave_up}
use Rattle.dasd_unload.proofs.Unloaded.{no_block, of_block}
use Rattle.dasd_unload.proofs.volumes.unload_block.Goals as goal

-- it is none of a data set
pub returns-then-not-is_data_set-clause-does : goal.returns-then-not-is_data_set-clause-does
returns-then-not-is_data_set-clause-does g c =
    let t = c.args.row.table.target in
    no_block (g.V.SlotReader.volume c.args.volume.now) (plan t.folder.now t.block_form (option_copied t.json)) c.args.row.table.blocks.now
    c.args.row.block.now _ _
    (grind (arith, c.is_data_set.ensures, c.if-not-is_data_set.true))

pub returns-in_default-clause-does : goal.returns-in_default-clause-does
returns-in_default-clause-does g c = gave_up _ _ _ _ _ _ _ _ _ refl

pub returns-clause-does : goal.returns-clause-does
returns-clause-does g c =
    let t = c.args.row.table.target in
    of_block c.unload_one.result (g.V.SlotReader.volume c.args.volume.now) (plan t.folder.now t.block_form (option_copied t.json))
    c.args.row.table.blocks.now c.args.row.block.now _ _ _ _
    c.in-Ok.set (grind (arith, c.is_data_set.ensures, c.if-not-is_data_set.false)) c.in-Ok.ensures c.unload_one.ensures.does
