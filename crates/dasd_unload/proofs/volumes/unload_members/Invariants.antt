use Rattle.std.proofs.Common.{◌≡◌, [], ◌∷◌, drop}
use Rattle.std.specs.List.{flat_map}
use Rattle.std.specs.Option.{option_copied}
use Rattle.counted_io.specs.Streams.{seen_by}
use Rattle.dasd_unload.specs.Unloads.{AddsIn, outcome}
use Rattle.dasd_unload.specs.Volumes.{plan, member_step, partitioned_steps}
use Rattle.dasd_unload.proofs.Steps.{SoFar}
use Rattle.dasd_unload.proofs.volumes.unload_members.Given as goal

-- the files that came so far stand in the folder, and are those of the members so far
abbrev pub invariant-loop-entry : goal.invariant-loop-entry
invariant-loop-entry g l =
    let written = g.F.ImageFiles.written in
    let printed = seen_by g.W.Write.contents in
    let v = g.V.SlotReader.volume l.fn.volume in
    let set = l.opened.set.now in record {
      files : AddsIn l.target.folder.now (written l.fn.files) (written l.files);
      same : g.F.ImageFiles.opened l.files ≡ g.F.ImageFiles.opened l.fn.files;
      kept : g.V.SlotReader.volume l.volume ≡ v;
      steps : SoFar v (plan l.target.folder.now l.target.block_form (option_copied l.target.json))
          (λ u. flat_map (λ e. member_step set.block set.extents.items l.opened.form e ∷ []) (drop l.entry-index l.entries))
          (λ u. partitioned_steps u set.block set.extents.items l.opened.form)
          (outcome (written l.fn.files) (printed l.fn.writer)) (outcome (written l.files) (printed l.writer)) l.fn.report.tally
          l.report.tally;
    }
