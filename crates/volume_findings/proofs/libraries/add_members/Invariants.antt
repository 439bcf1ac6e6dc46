use Rattle.std.proofs.Common.{◌≡◌, take}
use Rattle.std.specs.List.{flat_map}
use Rattle.volume_findings.specs.Data.{member_findings, AddsOf}
use Rattle.volume_findings.proofs.libraries.add_members.Given as goal

-- the findings of the members so far are there; the volume stays
abbrev pub invariant-loop-entry : goal.invariant-loop-entry
invariant-loop-entry g l =
    let before = g.V.SlotReader.volume l.fn.volume in
    let d = l.library.set.now in record {
      found : AddsOf (λ n slots. flat_map (λ e. member_findings d.block.name d.extents.items l.entries e n slots)
          (take l.entry-index l.entries)) before
          l.fn.found.items l.found.items;
      volume : g.V.SlotReader.volume l.volume ≡ before;
      failures : g.V.SlotReader.failures l.volume ≡ g.V.SlotReader.failures l.fn.volume;
    }
