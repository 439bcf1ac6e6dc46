use Rattle.std.proofs.Common.{◌≡◌, take}
use Rattle.std.specs.List.{flat_map}
use Rattle.volume_findings.specs.Data.{block_findings, AddsOf}
use Rattle.volume_findings.proofs.sets.add_blocks.Given as goal

-- the findings of the control blocks so far are there; the volume stays
abbrev pub invariant-loop-block : goal.invariant-loop-block
invariant-loop-block g l =
    let before = g.V.SlotReader.volume l.fn.volume in record {
      found : AddsOf (λ n slots. flat_map (λ b. block_findings l.blocks b n slots)
          (take l.block-index l.blocks)) before l.fn.found.items l.found.items;
      volume : g.V.SlotReader.volume l.volume ≡ before;
      failures : g.V.SlotReader.failures l.volume ≡ g.V.SlotReader.failures l.fn.volume;
    }
