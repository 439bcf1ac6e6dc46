use Rattle.std.proofs.Common.{◌≡◌, ◌+◌, ◌-◌, ◌∙◌, rules, tests, refl, sym, subst, ap}
use Rattle.std.specs.List.{flat_map, FoldsTo}
use Rattle.counted_io.specs.Streams.{seen_by, Takes, TakesFront}
use Rattle.dasd_volumes.specs.Reading.{KnownVolume}
use Rattle.dasd_volumes.specs.Volumes.{of_each, tracks_on}
use Rattle.dasd_volumes.proofs.Appended.{of_none, of_one_more}
use Rattle.dasd_volumes.proofs.Fronts.{no_lines, more_lines, front_of_lines}
use Rattle.dasd_volumes.proofs.Walked.{text_same, steps_then}
use Rattle.dasd_volumes.proofs.walks.each_track.Goals as goal

pub loop-i-init : goal.loop-i-init
loop-i-init g c = record {
  text = λ known slots are. no_lines _ _ _;
  sound = refl;
  noted = λ slots are. subst (λ l. FoldsTo g.T.EachTrack.Notes c.args.each.now l c.args.each.now) (sym (of_none _)) refl;
  volume = refl;
  reads = refl;
  same = refl;
  known = λ known. known;
  ready = search (rules, tests);
  keeps = g.met.T.EachTrack.still _;
  size = search (rules, tests);
}

pub loop-i-preserved : goal.loop-i-preserved
loop-i-preserved g c =
    let before = seen_by g.W.Write.contents c.loop-i.writer in
    let after = seen_by g.W.Write.contents c.each_on_cylinder.new.writer in
    let t = c.args.tracks in
    record {
      text = λ known slots are.
          more_lines (g.T.EachTrack.text c.args.each.now) _ _ before after c.loop-i.i (c.loop-i.invariant.text known slots are)
          (text_same (Takes before after) _ _ _ _ t.heads _ slots c.loop-i.invariant.same c.loop-i.invariant.volume
          (c.in_default.ensures.text (c.loop-i.invariant.known known) slots
          (ap (λ (v : KnownVolume). v.slots) c.loop-i.invariant.volume ∙ are)));
      sound = c.in_default.ensures.writes ∙ c.loop-i.invariant.sound;
      noted = λ slots are.
          subst (λ l. FoldsTo g.T.EachTrack.Notes c.args.each.now l c.each_on_cylinder.new.each) (sym (of_one_more _ c.loop-i.i))
          (steps_then g.T.EachTrack.Notes _ _ _ _ _ (c.loop-i.invariant.noted slots are)
          (subst (λ (v : KnownVolume). FoldsTo g.T.EachTrack.Notes c.loop-i.each
          (tracks_on t.heads (t.cylinders.first + c.loop-i.i) v.geometry slots) c.each_on_cylinder.new.each) c.loop-i.invariant.volume
          (c.in_default.ensures.noted slots (ap (λ (v : KnownVolume). v.slots) c.loop-i.invariant.volume ∙ are))));
      volume = c.in_default.ensures.volume.0 ∙ c.loop-i.invariant.volume;
      reads = c.in_default.ensures.volume.1 ∙ c.loop-i.invariant.reads;
      same = c.each_on_cylinder.ensures.same ∙ c.loop-i.invariant.same;
      known = λ known. c.each_on_cylinder.ensures.known (c.loop-i.invariant.known known);
      ready = search (rules, tests);
      keeps = g.met.T.EachTrack.kept _ _ _ c.loop-i.invariant.keeps c.each_on_cylinder.ensures.keeps;
      size = search (rules, tests);
    }

-- a cylinder was not handled to its end
pub returns-in-Err-clause-text : goal.returns-in-Err-clause-text
returns-in-Err-clause-text g c = λ known slots are.
    let before = seen_by g.W.Write.contents c.loop-i.writer in
    let after = seen_by g.W.Write.contents c.each_on_cylinder.new.writer in
    front_of_lines (g.T.EachTrack.text c.args.each.now) _ _ before after c.loop-i.i _ (search (rules, tests))
    (c.loop-i.invariant.text known slots are)
    (text_same (TakesFront before after) _ _ _ _ c.args.tracks.heads _ slots c.loop-i.invariant.same c.loop-i.invariant.volume
    (c.in-Err.ensures.text (c.loop-i.invariant.known known) slots (ap (λ (v : KnownVolume). v.slots) c.loop-i.invariant.volume ∙ are)))

-- each cylinder is passed
pub returns-clause-text : goal.returns-clause-text
returns-clause-text g c = λ known slots are.
    let v = g.V.SlotReader.volume c.args.volume.now in
    let t = c.args.tracks in
    let each : c.loop-i.i ≡ t.cylinders.last + 1 - t.cylinders.first = search (rules, tests) in
    subst (λ n. Takes (seen_by g.W.Write.contents c.args.writer.now) (seen_by g.W.Write.contents c.loop-i.writer)
    (flat_map (g.T.EachTrack.text c.args.each.now) (of_each (λ k. tracks_on t.heads (t.cylinders.first + k) v.geometry slots) n)))
    each (c.loop-i.invariant.text known slots are)

pub returns-clause-noted : goal.returns-clause-noted
returns-clause-noted g c = λ slots are.
    let v = g.V.SlotReader.volume c.args.volume.now in
    let t = c.args.tracks in
    let each : c.loop-i.i ≡ t.cylinders.last + 1 - t.cylinders.first = search (rules, tests) in
    subst (λ n. FoldsTo g.T.EachTrack.Notes c.args.each.now (of_each (λ k. tracks_on t.heads (t.cylinders.first + k) v.geometry slots) n)
    c.loop-i.each) each (c.loop-i.invariant.noted slots are)
