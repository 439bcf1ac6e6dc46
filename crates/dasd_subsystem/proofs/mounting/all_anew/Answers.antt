use Rattle.std.proofs.Common.{arith}
use Rattle.dasd_subsystem.proofs.There.{behind, there_at}
use Rattle.dasd_subsystem.proofs.mounting.all_anew.Goals as goal

pub anew_at-requires-clause-there : goal.anew_at-requires-clause-there
anew_at-requires-clause-there c =
    let i = c.loop-place.invariant in let long = i.size in let t = c.loop-place-test.true in
    there_at c.loop-place.files c.loop-place.place i.there (omega arith)

pub loop-place-preserved : goal.loop-place-preserved
loop-place-preserved c =
    let e = c.anew_at.ensures in let t = c.loop-place-test.true in
    behind c.args.files.now c.loop-place.files c.anew_at.new.files c.loop-place.place c.loop-place.invariant (omega arith) e.files e.there
    e.content

pub returns-in_err-anew_at-clause-contents : goal.returns-in_err-anew_at-clause-contents
returns-in_err-anew_at-clause-contents c =
    let e = c.anew_at.ensures in let t = c.loop-place-test.true in
    (behind c.args.files.now c.loop-place.files c.anew_at.new.files c.loop-place.place c.loop-place.invariant (omega arith) e.files e.there
    e.content).contents
