-- How the program ends.
use Rattle.std.specs.Prelude.{ℕ, Bool, true, false, Result, Ok, Err}
use Rattle.std.specs.declared.io.ErrorKind.{ErrorKind}
use Rattle.std.specs.declared.io.ErrorKind.TheVariants as io
use Rattle.dasd_run.specs.declared.commands.Ending.{Ending}
use Rattle.dasd_run.specs.declared.commands.Ending.TheVariants.{Done, Findings}
use Rattle.program_faults.specs.declared.fault.ProgramFault.{ProgramFault}
use Rattle.program_faults.specs.Faults.{status_of}

-- 0 where there is nothing to report, 1 where a volume has findings, and else that of the fault; of a comparison that is 2
abbrev pub ended_status : (compares : Bool) → Result Ending ProgramFault → ℕ
ended_status compares (Ok Done) = 0
ended_status compares (Ok Findings) = 1
ended_status true (Err fault) = 2
ended_status false (Err fault) = status_of fault

-- nobody reads the output any more
abbrev pub is_broken_pipe : ErrorKind → Bool
is_broken_pipe io.BrokenPipe = true
is_broken_pipe kind = false
