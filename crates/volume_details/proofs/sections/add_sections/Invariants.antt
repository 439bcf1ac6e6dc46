use Rattle.std.proofs.Common.{◌≡◌, List, ℕ, Some, take, flat_map}
use Rattle.library_contents.specs.Report.{Adds}
use Rattle.volume_details.specs.Sections.{shown_by, block_lines}
use Rattle.volume_details.proofs.sections.add_sections.Given as goal

-- the sections so far were added; the volume stays, and no read failed
abbrev pub invariant-loop-block : goal.invariant-loop-block
invariant-loop-block g l =
    let before = g.V.SlotReader.volume l.fn.volume in record {
      lines : (slots : List (List ℕ)) → before.slots ≡ Some slots
          → Adds l.fn.report l.report
          (flat_map (λ b. block_lines (shown_by l.view) l.blocks b before.geometry slots) (take l.block-index l.blocks));
      volume : g.V.SlotReader.volume l.volume ≡ before;
      failures : g.V.SlotReader.failures l.volume ≡ g.V.SlotReader.failures l.fn.volume;
    }
