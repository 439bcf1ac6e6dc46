use Rattle.std.proofs.Common.{◌≡◌, drop}
use Rattle.std.specs.List.{flat_map}
use Rattle.std.specs.Option.{option_copied}
use Rattle.counted_io.specs.Streams.{seen_by}
use Rattle.dasd_unload.specs.Unloads.{AddsIn, outcome}
use Rattle.dasd_unload.specs.Volumes.{plan, block_steps}
use Rattle.dasd_unload.proofs.Steps.{SoFar}
use Rattle.dasd_unload.proofs.volumes.unload_sets.Given as goal

-- the files that came so far stand in the folder, and are those of the control blocks so far
abbrev pub invariant-loop-block : goal.invariant-loop-block
invariant-loop-block g l =
    let written = g.F.ImageFiles.written in
    let printed = seen_by g.W.Write.contents in
    let v = g.V.SlotReader.volume l.fn.volume in record {
      files : AddsIn l.table.target.folder.now (written l.fn.files) (written l.files);
      same : g.F.ImageFiles.opened l.files ≡ g.F.ImageFiles.opened l.fn.files;
      kept : g.V.SlotReader.volume l.volume ≡ v;
      steps : SoFar v (plan l.table.target.folder.now l.table.target.block_form (option_copied l.table.target.json))
          (λ u. flat_map (block_steps u l.blocks) (drop l.block-index l.blocks)) (λ u. flat_map (block_steps u l.blocks) l.blocks)
          (outcome (written l.fn.files) (printed l.fn.writer)) (outcome (written l.files) (printed l.writer)) l.fn.report.tally
          l.report.tally;
    }
