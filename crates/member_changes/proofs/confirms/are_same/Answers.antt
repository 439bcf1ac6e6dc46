use Rattle.std.proofs.Common.{◌∙◌, sym}
use Rattle.record_tracks.specs.Entries.{contents_of}
use Rattle.member_changes.proofs.Same.{apart, unequal, equal, ended}
use Rattle.member_changes.proofs.confirms.are_same.Goals as goal

pub returns-then-some-others : goal.returns-then-some-others
returns-then-some-others c = sym (apart contents_of c.args.some.now c.args.others.now c.if-some-others.true)

pub returns-then-not-is_same : goal.returns-then-not-is_same
returns-then-not-is_same c =
    sym (c.loop-i.invariant.same
    ∙ unequal contents_of c.args.some.now c.args.others.now c.loop-i.i _ _ c.loop-i-test.true c.loop-i.invariant.size
    (sym c.is_same.ensures ∙ c.if-not-is_same.true))

pub loop-i-preserved : goal.loop-i-preserved
loop-i-preserved c = record {
  size = c.loop-i.invariant.size;
  same = c.loop-i.invariant.same
      ∙ equal contents_of c.args.some.now c.args.others.now c.loop-i.i _ _ c.loop-i-test.true c.loop-i.invariant.size
      (sym c.is_same.ensures ∙ c.if-not-is_same.false);
}

pub returns : goal.returns
returns c =
    sym (c.loop-i.invariant.same
    ∙ ended contents_of c.args.some.now c.args.others.now c.loop-i.i c.loop-i-test.false c.loop-i.invariant.size)
