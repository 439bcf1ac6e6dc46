use Rattle.dasd_subsystem.proofs.There.{Same}
use Rattle.dasd_subsystem.proofs.mounting.all_anew.Given as goal

-- what was begun anew has its bytes
abbrev pub invariant-loop-place : goal.invariant-loop-place
invariant-loop-place l = Same l.fn.files l.files
