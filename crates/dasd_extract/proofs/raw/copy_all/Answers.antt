use Rattle.std.proofs.Common.{◌+◌, rules, tests, arith, refl, Some, None}
use Rattle.dasd_extract.proofs.Printings.{begun, one_more, stays, ended, front_of_next}
use Rattle.dasd_extract.proofs.raw.copy_all.Goals as goal

pub loop-i-init : goal.loop-i-init
loop-i-init g c = record {
  written = λ slots known. begun _ _;
  sound = refl;
  volume = refl;
  failures = refl;
  size = search (rules, tests);
}

pub returns-in-Ok-Some-clause-written : goal.returns-in-Ok-Some-clause-written
returns-in-Ok-Some-clause-written g c = λ slots known.
    let step = rw (c.loop-i.invariant.volume, c.in-Ok-Some.field-0-is) at c.in-Ok-Some.ensures.written in
    let all = one_more _ c.loop-i.i _ _ _ _ (c.loop-i.invariant.written slots known) (step slots known) in
    ended _ _ _ _ _ (stays _ (c.loop-i.i + 1) _ _ _ _ (omega arith) all)

pub returns-in-Err-clause-written : goal.returns-in-Err-clause-written
returns-in-Err-clause-written g c = λ slots known.
    let step = rw (c.loop-i.invariant.volume) at c.in-Err.ensures.written in
    front_of_next _ _ c.loop-i.i _ _ _ _ (search (rules, tests)) (c.loop-i.invariant.written slots known) (step slots known)

pub loop-i-preserved : goal.loop-i-preserved
loop-i-preserved g c = record {
  written = λ slots known.
      let step = rw (c.loop-i.invariant.volume, c.in-Ok-None.field-0-is) at c.in-Ok-None.ensures.written in
      one_more _ c.loop-i.i _ _ _ None (c.loop-i.invariant.written slots known) (step slots known);
  sound = search (rules, tests);
  volume = search (rules, tests);
  failures = search (rules, tests);
  size = search (rules, tests);
}
