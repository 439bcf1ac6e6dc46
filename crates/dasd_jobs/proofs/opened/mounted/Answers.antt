use Rattle.std.proofs.Common.{◌∙◌, ◌≤◌, ◌<◌, Ok, length, map, ap, sym, arith, rules, tests}
use Rattle.std.proofs.lemmas.List.{take_all}
use Rattle.ckd_image.specs.Header.{mount_of}
use Rattle.dasd_jobs.specs.Opening.{alone, judged}
use Rattle.dasd_jobs.proofs.Volumes.{next_alone}
use Rattle.dasd_jobs.proofs.Reached.{judged_count, judged_long, is_broken}
use Rattle.dasd_jobs.proofs.opened.mounted.Goals as goal

pub loop-i-preserved : goal.loop-i-preserved
loop-i-preserved c =
    let heads = judged c.args.as_far c.args.heads.now in
    let inside : c.loop-i.i < length heads =
    (let below = c.loop-i-test.true in let long = judged_count c.args.as_far c.args.heads.now in omega (arith, below, long)) in
    record {
      there = c.append.ensures.there;
      count = (let count = c.append.ensures.count in let so_far = c.loop-i.invariant.count in omega (arith, count, so_far));
      content = next_alone heads c.loop-i.i c.judged_at-head.result _ _ c.new.result.content inside
          c.loop-i.invariant.content c.append.ensures.content (c.new.ensures ∙ ap alone (c.judged_at-head.ensures c.judged_at-head.result));
    }

-- no more headers come than an image has files
pub returns-then-is_full-clause-not_mounted : goal.returns-then-is_full-clause-not_mounted
returns-then-is_full-clause-not_mounted c few =
    let more = c.loop-i-test.true in
    let so_far = c.loop-i.invariant.count in
    let full : 8 ≤ length c.loop-i.stores.items = search (rules, tests) in absurd (omega (arith, few, more, so_far, full))

pub returns-in-Ok-clause-mounts : goal.returns-in-Ok-clause-mounts
returns-in-Ok-clause-mounts c =
    let heads = judged c.args.as_far c.args.heads.now in
    let all = take_all c.loop-i.i heads
    (let past = c.loop-i-test.false in let long = judged_count c.args.as_far c.args.heads.now in omega (arith, past, long)) in
    ap mount_of (sym (c.loop-i.invariant.content ∙ ap (map alone) all)) ∙ c.in-Ok.ensures.holds.mounts
    ∙ ap (λ g. Ok g) (sym c.geometry.ensures.geometry)

pub returns-in-Ok-clause-long : goal.returns-in-Ok-clause-long
returns-in-Ok-clause-long c = judged_long c.args.as_far c.geometry.result c.args.heads.now (returns-in-Ok-clause-mounts c)

pub returns-in-Err-clause-not_mounted : goal.returns-in-Err-clause-not_mounted
returns-in-Err-clause-not_mounted c few =
    let heads = judged c.args.as_far c.args.heads.now in
    let all = take_all c.loop-i.i heads
    (let past = c.loop-i-test.false in let long = judged_count c.args.as_far c.args.heads.now in omega (arith, past, long)) in
    is_broken c.in-Err.fault _ (map alone heads) _ _ c.in-Err.ensures.refused (c.loop-i.invariant.content ∙ ap (map alone) all)
