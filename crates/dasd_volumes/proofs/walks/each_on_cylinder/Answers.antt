use Rattle.std.proofs.Common.{◌≡◌, ◌+◌, ◌-◌, ◌∷◌, [], ◌∙◌, rules, tests, refl, sym, subst, ap}
use Rattle.std.specs.List.{flat_map, FoldsTo}
use Rattle.std.proofs.lemmas.Fn.{FoldsTo-push}
use Rattle.counted_io.specs.Streams.{seen_by, Takes, TakesFront}
use Rattle.dasd_volumes.specs.Reading.{KnownVolume}
use Rattle.dasd_volumes.specs.Volumes.{of_each, track_read}
use Rattle.dasd_volumes.proofs.Appended.{of_none, of_one_more}
use Rattle.dasd_volumes.proofs.Fronts.{no_lines, more_lines, front_of_lines, lines_so_far}
use Rattle.dasd_volumes.proofs.Walked.{read_is, text_of_one}
use Rattle.dasd_volumes.proofs.walks.each_on_cylinder.Goals as goal

pub loop-i-init : goal.loop-i-init
loop-i-init g c = record {
  text = λ known slots are. no_lines _ _ _;
  sound = refl;
  noted = λ slots are. subst (λ l. FoldsTo g.T.EachTrack.Notes c.args.each.now l c.args.each.now) (sym (of_none _)) refl;
  volume = refl;
  reads = refl;
  others = refl;
  same = refl;
  known = λ known. known;
  ready = search (rules, tests);
  keeps = g.met.T.EachTrack.still _;
  size = search (rules, tests);
}

pub loop-i-preserved : goal.loop-i-preserved
loop-i-preserved g c =
    let before = seen_by g.W.Write.contents c.loop-i.writer in
    let after = seen_by g.W.Write.contents c.track.new.writer in
    record {
      text = λ known slots are.
          let here = read_is _ _ slots _ _ _ _ c.geometry-geometry.ensures.geometry c.track_at.ensures.number
          (c.in-Ok.ensures.slot slots (ap (λ (v : KnownVolume). v.slots) c.loop-i.invariant.volume ∙ are)) in
          more_lines (g.T.EachTrack.text c.args.each.now) _ _ before after c.loop-i.i (c.loop-i.invariant.text known slots are)
          (text_of_one (Takes before after) (g.T.EachTrack.text c.args.each.now) _ _ _ c.loop-i.invariant.same here
          (c.in_default-track.ensures.text (c.loop-i.invariant.known known)));
      sound = c.in_default-track.ensures.writes ∙ c.loop-i.invariant.sound;
      noted = λ slots are.
          let here = read_is _ _ slots _ _ _ _ c.geometry-geometry.ensures.geometry c.track_at.ensures.number
          (c.in-Ok.ensures.slot slots (ap (λ (v : KnownVolume). v.slots) c.loop-i.invariant.volume ∙ are)) in
          subst (λ l. FoldsTo g.T.EachTrack.Notes c.args.each.now l c.track.new.self) (sym (of_one_more _ c.loop-i.i))
          (FoldsTo-push g.T.EachTrack.Notes _ _ _ _ _ (c.loop-i.invariant.noted slots are)
          (subst (λ x. g.T.EachTrack.Notes c.loop-i.each x c.track.new.self) here c.in_default-track.ensures.noted));
      volume = c.load.ensures.kept ∙ c.loop-i.invariant.volume;
      reads = c.in-Ok.ensures.counted ∙ c.loop-i.invariant.reads;
      others = c.in_default-track.ensures.reads ∙ c.loop-i.invariant.others;
      same = c.track.ensures.same ∙ c.loop-i.invariant.same;
      known = λ known. c.track.ensures.known (c.loop-i.invariant.known known);
      ready = subst (λ i. g.T.EachTrack.IsFor i c.track.new.self) c.geometry-geometry.ensures.geometry c.track.ensures.ready;
      keeps = g.met.T.EachTrack.kept _ _ _ c.loop-i.invariant.keeps c.track.ensures.keeps;
      size = search (rules, tests);
    }

-- a slot could not be read
pub returns-in_default-clause-text : goal.returns-in_default-clause-text
returns-in_default-clause-text g c = λ known slots are.
    lines_so_far (g.T.EachTrack.text c.args.each.now) _ _ _ c.loop-i.i _ (search (rules, tests)) (c.loop-i.invariant.text known slots are)

-- a track was not handled to its end
pub returns-in-Err-clause-text : goal.returns-in-Err-clause-text
returns-in-Err-clause-text g c = λ known slots are.
    let before = seen_by g.W.Write.contents c.loop-i.writer in
    let after = seen_by g.W.Write.contents c.track.new.writer in
    let here = read_is _ _ slots _ _ _ _ c.geometry-geometry.ensures.geometry c.track_at.ensures.number
    (c.in-Ok.ensures.slot slots (ap (λ (v : KnownVolume). v.slots) c.loop-i.invariant.volume ∙ are)) in
    front_of_lines (g.T.EachTrack.text c.args.each.now) _ _ before after c.loop-i.i _ (search (rules, tests))
    (c.loop-i.invariant.text known slots are)
    (text_of_one (TakesFront before after) (g.T.EachTrack.text c.args.each.now) _ _ _ c.loop-i.invariant.same here
    (c.in-Err.ensures.text (c.loop-i.invariant.known known)))

-- each head is passed
pub returns-clause-text : goal.returns-clause-text
returns-clause-text g c = λ known slots are.
    let v = g.V.SlotReader.volume c.args.volume.now in
    let t = c.args.tracks in
    let each : c.loop-i.i ≡ t.heads.last + 1 - t.heads.first = search (rules, tests) in
    subst (λ n. Takes (seen_by g.W.Write.contents c.args.writer.now) (seen_by g.W.Write.contents c.loop-i.writer)
    (flat_map (g.T.EachTrack.text c.args.each.now) (of_each (λ k. track_read v.geometry slots t.cylinder (t.heads.first + k) ∷ []) n)))
    each (c.loop-i.invariant.text known slots are)

pub returns-clause-noted : goal.returns-clause-noted
returns-clause-noted g c = λ slots are.
    let v = g.V.SlotReader.volume c.args.volume.now in
    let t = c.args.tracks in
    let each : c.loop-i.i ≡ t.heads.last + 1 - t.heads.first = search (rules, tests) in
    subst (λ n. FoldsTo g.T.EachTrack.Notes c.args.each.now
    (of_each (λ k. track_read v.geometry slots t.cylinder (t.heads.first + k) ∷ []) n)
    c.loop-i.each) each (c.loop-i.invariant.noted slots are)
