-- What is done of saves that were cut off.
use Rattle.std.specs.Prelude.{◌≡◌, Result, IfErr}
use Rattle.dasd_jobs.specs.Causes.{IsOfWriting}
use Rattle.dasd_jobs.specs.declared.faults.JobFault.{JobFault}
use Rattle.dasd_run.specs.declared.commands.Ending.{Ending}
use Rattle.program_faults.specs.declared.fault.ProgramFault.{ProgramFault}
use Rattle.program_faults.specs.declared.fault.ProgramFault.TheVariants as fault
use Rattle.dasd_run.specs.Outside.{Outside, Looks}

-- a fault is one of files that are written
abbrev pub IsOfFiles : ProgramFault → Type 0
IsOfFiles e = (f : JobFault) × (e ≡ fault.Job f) × IsOfWriting f

-- No file is made or replaced, nothing is read or printed, and no file is opened for what is in it. A save that is completed is one of an
-- earlier run.
abbrev pub Recovers : Result Ending ProgramFault → (before now : Outside) → Type 0
Recovers result before now =
    Looks before now × (now.opened ≡ before.opened) × (now.printed ≡ before.printed) × IfErr result IsOfFiles
