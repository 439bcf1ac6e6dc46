use Rattle.std.proofs.Common.{◌∙◌, refl, sym, arith, true, false, None, Some}
use Rattle.std.specs.Option.{option_copied}
use Rattle.dasd_unload.specs.Volumes.{plan}
use Rattle.dasd_unload.specs.Unloads.{file_name}
use Rattle.dasd_unload.proofs.Steps.{gave_up}
use Rattle.dasd_unload.proofs.Unloaded.{tell_one, of_kind, set_done, set_stopped}
use Rattle.dasd_unload.proofs.volumes.unload_one.Goals as goal

pub unload_item-requires : goal.unload_item-requires
unload_item-requires g c = record {
  name = record { data_set = c.args.listed.set.now.block.name; member = None; made = c.as_str.ensures.value ∙ c.in-Ok.ensures.name };
}

pub returns-in-Err-clause-does : goal.returns-in-Err-clause-does
returns-in-Err-clause-does g c = gave_up _ _ _ _ _ _ _ _ _ refl

-- that the chain is broken was not told
pub returns-in-Err-chain-clause-does : goal.returns-in-Err-chain-clause-does
returns-in-Err-chain-clause-does g c =
    let set = c.args.listed.set.now in
    let t = c.args.listed.target in
    set_stopped (g.V.SlotReader.volume c.args.volume.now) (plan t.folder.now t.block_form (option_copied t.json)) set.block
    set.extents.items set.fault _ _ _ _ _ _
    (rw (c.as_str.ensures.value ∙ c.in-Ok.ensures.name) at c.in-Err-chain.ensures.text)

-- its format is of no records
pub returns-in_default-form_of-clause-does : goal.returns-in_default-form_of-clause-does
returns-in_default-form_of-clause-does g c =
    let set = c.args.listed.set.now in
    let t = c.args.listed.target in
    let named = c.as_str.ensures.value ∙ c.in-Ok.ensures.name in
    let v = g.V.SlotReader.volume c.args.volume.now in
    let p = plan t.folder.now t.block_form (option_copied t.json) in
    set_done v p set.block set.extents.items set.fault _ _ _ _ _ c.finding.result None _ _ (rw named at c.in_default.ensures.text)
    (rw named at c.in_default.ensures.counted)
    (grind (arith, c.form_of.ensures, c.in_default-form_of.is, c.in_default-form_of.ensures))
    (tell_one c.finding.result v p (file_name set.block.name None) _ _ _ _ _ _ (rw named at c.finding.ensures.text)
    c.finding.ensures.counted)

-- it has members
pub returns-then-is_partitioned-clause-does : goal.returns-then-is_partitioned-clause-does
returns-then-is_partitioned-clause-does g c =
    let set = c.args.listed.set.now in
    let t = c.args.listed.target in
    let named = c.as_str.ensures.value ∙ c.in-Ok.ensures.name in
    let v = g.V.SlotReader.volume c.args.volume.now in
    let p = plan t.folder.now t.block_form (option_copied t.json) in
    set_done v p set.block set.extents.items set.fault _ _ _ _ _ c.unload_members.result (Some c.in-Some.form) _ _
    (rw named at c.in_default.ensures.text)
    (rw named at c.in_default.ensures.counted) (sym c.in-Some.ensures)
    (of_kind c.unload_members.result v p set.block set.extents.items _ _ _ _ c.in-Some.form true
    (sym c.is_partitioned.ensures ∙ c.if-is_partitioned.true)
    c.unload_members.ensures.does)

-- it has none
pub returns-clause-does : goal.returns-clause-does
returns-clause-does g c =
    let set = c.args.listed.set.now in
    let t = c.args.listed.target in
    let named = c.as_str.ensures.value ∙ c.in-Ok.ensures.name in
    let v = g.V.SlotReader.volume c.args.volume.now in
    let p = plan t.folder.now t.block_form (option_copied t.json) in
    set_done v p set.block set.extents.items set.fault _ _ _ _ _ c.unload_item.result (Some c.in-Some.form) _ _
    (rw named at c.in_default.ensures.text)
    (rw named at c.in_default.ensures.counted) (sym c.in-Some.ensures)
    (of_kind c.unload_item.result v p set.block set.extents.items _ _ _ _ c.in-Some.form false
    (sym c.is_partitioned.ensures ∙ c.if-is_partitioned.false)
    (rw (named, c.whole.ensures.extents, c.as_slice.ensures.value, c.whole.ensures.start, c.whole.ensures.tracks, c.whole.ensures.form)
    at c.unload_item.ensures.does))
