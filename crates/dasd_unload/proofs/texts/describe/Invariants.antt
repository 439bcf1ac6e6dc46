use Rattle.std.proofs.Common.{◌≡◌, [], take}
use Rattle.std.specs.List.{flat_map}
use Rattle.dasd_unload.specs.Described.{block_forms, AddsText}
use Rattle.dasd_unload.proofs.texts.describe.Given as goal

-- the text so far is that of the blocks so far
abbrev pub invariant-loop-block : goal.invariant-loop-block
invariant-loop-block g l = record {
  text : AddsText (g.V.SlotReader.volume l.fn.volume)
      (λ geometry slots. flat_map (λ b. block_forms l.blocks b geometry slots) (take l.block-index l.blocks)) [] l.text.items;
  kept : g.V.SlotReader.volume l.volume ≡ g.V.SlotReader.volume l.fn.volume;
}
