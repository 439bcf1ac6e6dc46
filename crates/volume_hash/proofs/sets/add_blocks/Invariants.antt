use Rattle.std.proofs.Common.{◌≡◌, take}
use Rattle.std.specs.List.{flat_map, list_all}
use Rattle.volume_hash.specs.SetLines.{shown}
use Rattle.volume_hash.specs.Prints.{Adds}
use Rattle.volume_hash.specs.Sets.{block_lines, block_is_whole}
use Rattle.volume_hash.proofs.sets.add_blocks.Given as goal

-- the lines of the control blocks so far are there; the volume stays
abbrev pub invariant-loop-block : goal.invariant-loop-block
invariant-loop-block g l =
    let before = g.V.SlotReader.volume l.fn.volume in
    let form = l.table.form in
    let f = shown form.path.now form.json form.sets form.members in record {
      lines : Adds (λ n slots. flat_map (λ b. block_lines f l.blocks b n slots) (take l.block-index l.blocks))
          (λ n slots. list_all (λ b. block_is_whole l.blocks b n slots) (take l.block-index l.blocks)) before l.fn.report l.report;
      volume : g.V.SlotReader.volume l.volume ≡ before;
      failures : g.V.SlotReader.failures l.volume ≡ g.V.SlotReader.failures l.fn.volume;
    }
