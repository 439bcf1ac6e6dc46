use Rattle.std.proofs.Common.{◌∙◌, refl, [], ◌∷◌, Some}
use Rattle.std.specs.Option.{option_copied}
use Rattle.dasd_unload.specs.Volumes.{plan, member_step, partitioned_steps}
use Rattle.dasd_unload.proofs.Folder.{adds_none, adds_both}
use Rattle.dasd_unload.proofs.Steps.{gave_up, stop_here, next, stop_next, all}
use Rattle.dasd_unload.proofs.Unloaded.{directory_told, directory_stopped}
use Rattle.dasd_unload.proofs.volumes.unload_members.Goals as goal

pub unload_item-requires : goal.unload_item-requires
unload_item-requires g c = record {
  name = record {
    data_set = c.args.opened.set.now.block.name;
    member = Some _;
    made = c.as_str-in-loop-entry.ensures.value ∙ c.in-Ok-name_of_member.ensures.name;
  };
}

pub returns-in-Err-clause-does : goal.returns-in-Err-clause-does
returns-in-Err-clause-does g c = gave_up _ _ _ _ _ _ _ _ _ refl

pub returns-in-Err-name_of_set-clause-does : goal.returns-in-Err-name_of_set-clause-does
returns-in-Err-name_of_set-clause-does g c = gave_up _ _ _ _ _ _ _ _ _ refl

-- what is wrong with the directory was not told to its end
pub returns-in-Err-directory-clause-does : goal.returns-in-Err-directory-clause-does
returns-in-Err-directory-clause-does g c =
    let set = c.args.opened.set.now in
    let t = c.args.opened.target in
    directory_stopped (g.V.SlotReader.volume c.args.volume.now) (plan t.folder.now t.block_form (option_copied t.json)) set.block
    set.extents.items c.args.opened.form
    c.in-Ok.members (rw c.as_slice-extents.ensures.value at c.in-Ok.ensures.members) c.in-Ok.members.entries.items refl _ _ _ _ _ _
    (rw (c.as_str.ensures.value ∙ c.in-Ok-name_of_set.ensures.name) at c.in-Err-directory.ensures.text)

pub loop-entry-init : goal.loop-entry-init
loop-entry-init g c =
    let set = c.args.opened.set.now in
    let t = c.args.opened.target in record {
      files = adds_none _ _;
      same = refl;
      kept = c.in-Ok.ensures.volume.0;
      steps = directory_told (g.V.SlotReader.volume c.args.volume.now) (plan t.folder.now t.block_form (option_copied t.json)) set.block
          set.extents.items c.args.opened.form
          c.in-Ok.members (rw c.as_slice-extents.ensures.value at c.in-Ok.ensures.members) c.as_slice-entries.result.now
          c.as_slice-entries.ensures.value _ _ _ _ _
          (rw (c.as_str.ensures.value ∙ c.in-Ok-name_of_set.ensures.name) at c.in_default.ensures.text)
          (rw (c.as_str.ensures.value ∙ c.in-Ok-name_of_set.ensures.name) at c.in_default.ensures.counted);
    }

pub returns-in-Err-name_of_member-clause-does : goal.returns-in-Err-name_of_member-clause-does
returns-in-Err-name_of_member-clause-does g c = stop_here _ _ _ _ _ _ _ _ _ _ c.loop-entry.invariant.steps

pub returns-in-Err-unload_item-clause-files : goal.returns-in-Err-unload_item-clause-files
returns-in-Err-unload_item-clause-files g c = adds_both _ _ _ _ c.loop-entry.invariant.files c.unload_item.ensures.files

-- a member was not unloaded
pub returns-in-Err-unload_item-clause-does : goal.returns-in-Err-unload_item-clause-does
returns-in-Err-unload_item-clause-does g c =
    let set = c.args.opened.set.now in
    let t = c.args.opened.target in
    let form = c.args.opened.form in
    stop_next (g.V.SlotReader.volume c.args.volume.now) (plan t.folder.now t.block_form (option_copied t.json))
    (λ u. partitioned_steps u set.block set.extents.items form)
    (λ u e. member_step set.block set.extents.items form e ∷ []) c.as_slice-entries.result.now c.loop-entry.entry-index _ _ _ _
    c.loop-entry.invariant.steps _ _ _ _ _
    c.loop-entry-test.true
    (rw (
      c.loop-entry.invariant.kept,
      c.as_str-in-loop-entry.ensures.value ∙ c.in-Ok-name_of_member.ensures.name,
      c.member_of.ensures.extents,
      c.as_slice-extents.ensures.value,
      c.member_of.ensures.start,
      c.member_of.ensures.tracks,
      c.member_of.ensures.form,
    ) at c.in-Err-unload_item.ensures.does)

pub loop-entry-preserved : goal.loop-entry-preserved
loop-entry-preserved g c =
    let set = c.args.opened.set.now in
    let t = c.args.opened.target in
    let form = c.args.opened.form in record {
      files = adds_both _ _ _ _ c.loop-entry.invariant.files c.unload_item.ensures.files;
      same = c.unload_item.ensures.same ∙ c.loop-entry.invariant.same;
      kept = c.unload_item.ensures.kept ∙ c.loop-entry.invariant.kept;
      steps = next (g.V.SlotReader.volume c.args.volume.now) (plan t.folder.now t.block_form (option_copied t.json))
          (λ u. partitioned_steps u set.block set.extents.items form)
          (λ u e. member_step set.block set.extents.items form e ∷ []) c.as_slice-entries.result.now c.loop-entry.entry-index _ _ _
          _ c.loop-entry.invariant.steps _ _ _
          c.loop-entry-test.true
          (rw (
            c.loop-entry.invariant.kept,
            c.as_str-in-loop-entry.ensures.value ∙ c.in-Ok-name_of_member.ensures.name,
            c.member_of.ensures.extents,
            c.as_slice-extents.ensures.value,
            c.member_of.ensures.start,
            c.member_of.ensures.tracks,
            c.member_of.ensures.form,
          ) at c.in_default-unload_item.ensures.does);
    }

pub returns-clause-does : goal.returns-clause-does
returns-clause-does g c =
    let set = c.args.opened.set.now in
    let t = c.args.opened.target in
    let form = c.args.opened.form in all (g.V.SlotReader.volume c.args.volume.now) (plan t.folder.now t.block_form (option_copied t.json))
    (λ u. partitioned_steps u set.block set.extents.items form)
    (λ u e. member_step set.block set.extents.items form e ∷ []) c.as_slice-entries.result.now c.loop-entry.entry-index _ _ _ _
    c.loop-entry.invariant.steps c.loop-entry-test.false
