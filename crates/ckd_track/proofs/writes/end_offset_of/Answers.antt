-- The walk over the records stops at the end mark.
use Rattle.std.proofs.Common.{◌∙◌, ◌+◌, ap, sym, None, arith}
use Rattle.std.specs.Result.{result_unwrap_or}
use Rattle.ckd_track.specs.Track.{track_in}
use Rattle.ckd_track.proofs.Offsets.{whole}
use Rattle.ckd_track.proofs.Places.{place-le}
use Rattle.ckd_track.proofs.Writing.{first_place, stepped, stopped}
use Rattle.ckd_track.proofs.writes.end_offset_of.Goals as goal

pub loop-size-init : goal.loop-size-init
loop-size-init c =
    let s = c.args.slot.now in
    let spells = whole s c.type_inv.slot c.requires in
    let first = first_place s (track_in s) spells in
    record { passed = (0, omega arith, first); room = omega (arith, first, place-le s (track_in s) spells 0) }

pub loop-size-preserved : goal.loop-size-preserved
loop-size-preserved c =
    let s = c.args.slot.now in
    let spells = whole s c.type_inv.slot c.requires in
    let before = c.loop-size.invariant.passed in
    let looked = sym (c.unwrap_or.ensures ∙ ap (λ r. result_unwrap_or r None) c.record_size_at.ensures) ∙ c.in-Some.is in
    let step = stepped s (track_in s) spells before.0 c.loop-size.at c.in-Some.size before.2 before.1 looked in
    record {
      passed = (before.0 + 1, omega (arith, step.0), step.1);
      room =
          omega (arith, step.1, place-le s (track_in s) spells (before.0 + 1));
    }

pub returns-clause-place : goal.returns-clause-place
returns-clause-place c =
    let s = c.args.slot.now in
    let before = c.loop-size.invariant.passed in
    let looked = sym (c.unwrap_or.ensures ∙ ap (λ r. result_unwrap_or r None) c.record_size_at.ensures) ∙ c.in_default.is in
    stopped s (track_in s) (whole s c.type_inv.slot c.requires) before.0 c.loop-size.at before.2 before.1 looked
