use Rattle.std.proofs.Common.{◌∙◌, ap, sym}
use Rattle.volume_contents.specs.Claims.{Claimed}
use Rattle.volume_contents.proofs.Cylinders.{free, taken, all_free}
use Rattle.volume_contents.proofs.claims.claim_split.Goals as goal

pub returns-in-Some-clause-taken : goal.returns-in-Some-clause-taken
returns-in-Some-clause-taken c =
    let first = rw c.run_on.ensures.value at c.in-Some.ensures.taken in
    sym (ap (λ (x : Claimed). x.taken) (taken _ _ _ _ _ _ c.loop-k.invariant.left c.loop-k-test.true _ first))

pub returns-in-Some-clause-marks : goal.returns-in-Some-clause-marks
returns-in-Some-clause-marks c =
    let first = rw c.run_on.ensures.value at c.in-Some.ensures.taken in
    let marks = rw c.run_on.ensures.value at c.in-Some.ensures.marks in
    marks ∙ sym (ap (λ (x : Claimed). x.marks) (taken _ _ _ _ _ _ c.loop-k.invariant.left c.loop-k-test.true _ first))

pub loop-k-preserved : goal.loop-k-preserved
loop-k-preserved c =
    let first = rw c.run_on.ensures.value at c.in-None.ensures.taken in
    let marks = rw c.run_on.ensures.value at c.in-None.ensures.marks in record {
      left = rw marks (free _ _ _ _ _ _ c.loop-k.invariant.left c.loop-k-test.true first);
      size = c.in-None.ensures.size ∙ c.loop-k.invariant.size;
    }

pub returns-clause-taken : goal.returns-clause-taken
returns-clause-taken c = sym (ap (λ (x : Claimed). x.taken) (all_free _ _ _ _ _ _ c.loop-k.invariant.left c.loop-k-test.false))

pub returns-clause-marks : goal.returns-clause-marks
returns-clause-marks c = sym (ap (λ (x : Claimed). x.marks) (all_free _ _ _ _ _ _ c.loop-k.invariant.left c.loop-k-test.false))
