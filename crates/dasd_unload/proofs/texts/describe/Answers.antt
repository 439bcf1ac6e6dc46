use Rattle.std.proofs.Common.{ℕ, ◌+◌, ◌<◌, ◌≤◌, ◌∙◌, List, [], length, take, get_or}
use Rattle.std.specs.List.{flat_map}
use Rattle.std.proofs.lemmas.List.{take_more, flat_map_more, take_all}
use Rattle.std.proofs.lemmas.List.Concat.{flat_map-append}
use Rattle.ckd_track.specs.declared.geometries.Geometry.{Geometry}
use Rattle.dasd_volumes.specs.Reading.{KnownVolume}
use Rattle.volume_contents.specs.declared.blocks.Block.{Block}
use Rattle.set_forms.specs.declared.forms.FormLine.{FormLine}
use Rattle.set_forms.specs.Forms.{form_line}
use Rattle.dasd_unload.specs.Described.{block_forms, AddsText, IsDescribed}
use Rattle.dasd_unload.proofs.texts.describe.Goals as goal

module _ (v : KnownVolume) (blocks : List Block) where
  abbrev first_forms : (count : ℕ) → Geometry → List (List ℕ) → List FormLine
  first_forms count g slots = flat_map (λ b. block_forms blocks b g slots) (take count blocks)

  -- that of one block more
  block_more : (k : ℕ) (d : Block) (text now : List ℕ) → k < length blocks → AddsText v (first_forms k) [] text
      → AddsText v (block_forms blocks (get_or blocks k d)) text now → AddsText v (first_forms (k + 1)) [] now
  block_more k d text now inside so_far this = λ slots known.
      let forms = λ (b : Block). block_forms blocks b v.geometry slots in
      let two = flat_map-append form_line (flat_map forms (take k blocks)) (forms (get_or blocks k d)) in
      cc (this slots known, so_far slots known, flat_map_more forms [] (take k blocks) (get_or blocks k d), take_more blocks k d inside)

  -- and of all
  whole : (k : ℕ) (text : List ℕ) → length blocks ≤ k → AddsText v (first_forms k) [] text → IsDescribed v blocks text
  whole k text passed so_far = λ slots known. cc (so_far slots known, take_all k blocks passed)

pub loop-block-preserved : goal.loop-block-preserved
loop-block-preserved g c = record {
  text = block_more (g.V.SlotReader.volume c.args.volume.now) c.args.blocks.now _ _ _ _ c.loop-block-test.true c.loop-block.invariant.text
      (rw c.loop-block.invariant.kept at c.in_ok-describe_block.ensures.text);
  kept = c.describe_block.ensures.kept ∙ c.loop-block.invariant.kept;
}

pub returns-clause-text : goal.returns-clause-text
returns-clause-text g c = whole
    (g.V.SlotReader.volume c.args.volume.now) c.args.blocks.now _ _ c.loop-block-test.false c.loop-block.invariant.text
