use Rattle.std.proofs.Common.{◌≡◌, ◌∙◌, true, false, sym, ap, arith, bytes_eq}
use borrow.Author.Count.{below_none, below_more}
use Rattle.ckd_track.specs.Track.{record_in}
use Rattle.dasd_archive.proofs.Sought.{found_at, found_nowhere}
use Rattle.dasd_archive.proofs.tracks.is_earlier.Goals as goal

pub loop-i-init : goal.loop-i-init
loop-i-init c = below_none _

pub returns-then-is_same : goal.returns-then-is_same
returns-then-is_same c =
    let here : bytes_eq (record_in c.args.view.now c.loop-i.i).id c.args.wanted ≡ true =
    ap (λ id. bytes_eq id c.args.wanted) (sym c.identifier.ensures.value) ∙ sym c.is_same.ensures ∙ c.if-is_same.true in
    found_at c.args.view.now.records c.args.wanted c.args.records c.requires c.loop-i.i (omega arith) here

pub loop-i-preserved : goal.loop-i-preserved
loop-i-preserved c =
    let here : bytes_eq (record_in c.args.view.now c.loop-i.i).id c.args.wanted ≡ false =
    ap (λ id. bytes_eq id c.args.wanted) (sym c.identifier.ensures.value) ∙ sym c.is_same.ensures ∙ c.if-is_same.false in
    below_more (λ k. bytes_eq (record_in c.args.view.now k).id c.args.wanted ≡ false) c.loop-i.i c.loop-i.invariant here

pub returns : goal.returns
returns c = found_nowhere c.args.view.now.records c.args.wanted c.args.records c.requires (λ k below. c.loop-i.invariant k (omega arith))
