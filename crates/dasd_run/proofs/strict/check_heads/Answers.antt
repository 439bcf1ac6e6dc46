use Rattle.std.proofs.Common.{rules, tests, refl}
use Rattle.std.proofs.lemmas.Result.{err_from_is_err_and}
use Rattle.dasd_volumes.proofs.Fronts.{front_of_lines}
use Rattle.dasd_archive.proofs.Reported.{none_found, one_more_found}
use Rattle.dasd_run.proofs.strict.check_heads.Goals as goal

pub loop-i-init : goal.loop-i-init
loop-i-init g c = record { found = none_found _ _ _ _ _; sound = refl }

pub loop-i-preserved : goal.loop-i-preserved
loop-i-preserved g c = record {
  found = one_more_found _ _ _ c.loop-i.i _ _ _ _ _ _ c.loop-i.invariant.found (search (rules, tests));
  sound = search (rules, tests);
}

-- a header's line was not printed to its end
pub returns-in_err-check_headers-clause-found : goal.returns-in_err-check_headers-clause-found
returns-in_err-check_headers-clause-found g c =
    let p = err_from_is_err_and c.from_residual.result c.from_residual.ensures.1 in
    rw p.1 (front_of_lines _ _ _ _ _ c.loop-i.i _ (search (rules, tests)) c.loop-i.invariant.found.0 (search (rules, tests)))
