use Rattle.std.proofs.Common.{◌∙◌, ◌+◌, ap, sym, refl, subst, ℕ, List, drop, arith}
use Rattle.record_tracks.specs.Records.{all_areas}
use Rattle.record_tracks.specs.Tracks.{loaded_slot}
use Rattle.loaded_sets.specs.Placed.{HasAreas}
use Rattle.loaded_sets.proofs.Tracks.{none_behind, one_more, begun, goes_on}
use Rattle.loaded_sets.proofs.placed_images.write_tracks.Goals as goal

pub loop-i-init : goal.loop-i-init
loop-i-init c =
    let g = c.args.image.now.geometry in
    let all = all_areas c.args.records.now in record {
      same = record { geometry = refl; lasting = refl };
      size = c.requires.size;
      next = omega arith;
      left = none_behind g.model all;
      holds = begun g all c.args.run.first c.args.image.now.slots;
    }

pub loop-i-preserved : goal.loop-i-preserved
loop-i-preserved c =
    let g = c.args.image.now.geometry in
    let all = all_areas c.args.records.now in
    let first = c.args.run.first in
    let i = c.loop-i.i in
    let was = c.loop-i.invariant in
    let now = c.in_ok-next.ensures in
    let slots = rw was.same.geometry at now.slots in
    let next = rw was.same.geometry at now.next in record {
      same = record { geometry = now.same.geometry ∙ was.same.geometry; lasting = now.same.lasting ∙ was.same.lasting };
      size = now.size ∙ was.size;
      next = now.within;
      left = ap (λ (n : ℕ). drop n all) next ∙ one_more g.model all c.loop-i.next i _ was.left refl;
      holds = subst (λ (s : List (List ℕ)). HasAreas g all first (i + 1) c.args.image.now.slots s) (sym slots)
          (goes_on g all first i c.args.image.now.slots c.loop-i.image.slots _ was.holds (ap (loaded_slot g (first + i)) was.left)
          (omega (arith, c.geometry-geometry.ensures.image.count, was.holds.same, c.requires.there, c.loop-i-test.true)));
    }
