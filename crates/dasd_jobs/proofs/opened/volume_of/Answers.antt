use Rattle.std.proofs.Common.{◌∙◌, ◌∷◌, [], List, map, sym, subst, arith, length-append}
use Rattle.std.specs.List.{AllZip}
use Rattle.std.proofs.lemmas.List.{length-map, take_all}
use Rattle.dasd_jobs.specs.declared.reasons.Head.{Head}
use Rattle.dasd_jobs.specs.Opening.{IsHeadOf, AreTracks}
use Rattle.dasd_jobs.proofs.Volumes.{both_long, next_counted}
use Rattle.dasd_jobs.proofs.Reached.{lies, reaches}
use Rattle.dasd_jobs.proofs.opened.volume_of.Goals as goal

pub loop-head-preserved : goal.loop-head-preserved
loop-head-preserved g c = record {
  counts = next_counted c.args.geometry c.args.heads.now c.loop-head.tracks.items c.push.new.self.items c.loop-head.head-index _
      c.tracks_in.result c.loop-head-test.true c.push.ensures.items c.loop-head.invariant.counts c.tracks_in.ensures;
  count = rw c.push.ensures.items (let long = length-append c.loop-head.tracks.items (c.tracks_in.result ∷ []) in let so_far =
      c.loop-head.invariant.count in omega (arith, long, so_far));
}

pub invariant_of-result : goal.invariant_of-result
invariant_of-result g c =
    let contents = map g.O.OpenedFile.content c.args.files.items in
    let heads = c.args.heads.now in
    let tracks = c.loop-head.tracks.items in
    let geometry = c.args.geometry in
    let all = take_all c.loop-head.head-index heads (let past = c.loop-head-test.false in omega arith) in
    let counts = subst (λ (l : List Head). AllZip (AreTracks geometry) l tracks) all c.loop-head.invariant.counts in (
      c.requires.valid,
      sym (length-map c.args.files.items g.O.OpenedFile.content) ∙ both_long IsHeadOf contents heads c.requires.heads
          ∙ both_long (AreTracks geometry) heads tracks counts,
      lies geometry contents heads tracks c.requires.heads counts c.requires.long,
      reaches geometry contents heads tracks _ _ c.requires.heads counts (cc) c.left_out.ensures,
    )
