use Rattle.std.proofs.Common.{◌≡◌, ◌∙◌, ◌+◌, ◌<◌, ◌≤◌, ap₂, sym, List, ℕ, length, take, drop, get_or}
use Rattle.ckd_track.specs.declared.geometries.Geometry.{Geometry}
use Rattle.member_changes.specs.declared.places.BlockPlace.{BlockPlace}
use Rattle.member_changes.specs.Places.{block_written, all_written}
use Rattle.member_changes.proofs.Written.{no_blocks, one_block, no_places}
use Rattle.changed_libraries.proofs.directories.put_blocks.Goals as goal

-- One block more is written at its place.
module _ (g : Geometry) (places : List BlockPlace) (i : ℕ) (d : BlockPlace) (left : List ℕ) (slots : List (List ℕ)) where
  one_more : i < length places → (h : Geometry) (block more : List ℕ) (now wanted : List (List ℕ)) → 264 ≤ length left
      → block ≡ take 264 left → more ≡ drop 264 left → h ≡ g → now ≡ block_written h (get_or places i d) block slots
      → all_written g (drop i places) left slots ≡ wanted → all_written g (drop (i + 1) places) more now ≡ wanted
  one_more inside h block more now wanted enough front back same written is =
      ap₂ (λ (b : List ℕ) (s : List (List ℕ)). all_written g (drop (i + 1) places) b s) back
      (written ∙ ap₂ (λ (v : Geometry) (b : List ℕ). block_written v (get_or places i d) b slots) same front)
      ∙ sym (one_block g places i left slots d inside enough) ∙ is

nowhere : BlockPlace
nowhere = record { track = 0; number = 0 }

pub returns-then-left-lt-DIRECTORY_BLOCK-clause-slots : goal.returns-then-left-lt-DIRECTORY_BLOCK-clause-slots
returns-then-left-lt-DIRECTORY_BLOCK-clause-slots c =
    sym (no_blocks c.args.image.now.geometry c.args.places.now c.loop-place.place-index c.loop-place.left.now
    c.loop-place.image.slots nowhere c.loop-place-test.true c.if-left-lt-DIRECTORY_BLOCK.true)
    ∙ c.loop-place.invariant.slots

pub loop-place-preserved : goal.loop-place-preserved
loop-place-preserved c =
    let g = c.args.image.now.geometry in
    let before = c.loop-place.invariant in
    let made = c.in_ok-put_block.ensures in record {
      same = record {
        geometry = made.same.geometry ∙ before.same.geometry;
        lasting = made.same.lasting ∙ before.same.lasting;
      };
      slots = one_more g c.args.places.now c.loop-place.place-index _ c.loop-place.left.now c.loop-place.image.slots
          c.loop-place-test.true _ _ _ _ _ c.if-left-lt-DIRECTORY_BLOCK.false c.split_at.ensures.front c.split_at.ensures.back
          before.same.geometry made.slots before.slots;
      size = made.size ∙ before.size;
    }

pub returns-clause-slots : goal.returns-clause-slots
returns-clause-slots c =
    sym (no_places c.args.image.now.geometry c.args.places.now c.loop-place.place-index c.loop-place.left.now c.loop-place.image.slots
    c.loop-place-test.false)
    ∙ c.loop-place.invariant.slots
